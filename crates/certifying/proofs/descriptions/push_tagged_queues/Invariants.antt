use Rattle.std.proofs.Common.{◌≡◌, ◌+◌, ◌++◌, drop, length}
use Rattle.std.specs.String.{string_bytes}
use Rattle.engine_support.specs.OpeningTexts.{numbered}
use Rattle.certifying.specs.Descriptions.{tagged_lines}
use Rattle.certifying.proofs.descriptions.push_tagged_queues.Given as goal

abbrev pub invariant-loop-place : goal.invariant-loop-place
invariant-loop-place l =
    string_bytes l.out
    ++ numbered (tagged_lines l.opening l.certificate) (length l.certificate.queues + l.place) (drop l.place l.certificate.tagged)
    ≡ string_bytes l.fn.out ++ numbered (tagged_lines l.opening l.certificate) (length l.certificate.queues) l.certificate.tagged
