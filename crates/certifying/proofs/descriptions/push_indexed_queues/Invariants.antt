use Rattle.std.proofs.Common.{◌≡◌, ◌++◌, drop}
use Rattle.std.specs.String.{string_bytes}
use Rattle.engine_support.specs.OpeningTexts.{numbered}
use Rattle.certifying.specs.Descriptions.{queue_lines}
use Rattle.certifying.proofs.descriptions.push_indexed_queues.Given as goal

abbrev pub invariant-loop-place : goal.invariant-loop-place
invariant-loop-place l =
    string_bytes l.out ++ numbered (queue_lines l.opening l.certificate) l.place (drop l.place l.certificate.queues) ≡ string_bytes l.fn.out
    ++ numbered (queue_lines l.opening l.certificate) 0 l.certificate.queues
