use Rattle.std.proofs.Common.{◌≡◌}
use Rattle.queue_certificates.specs.{all_below, is_filled}
use Rattle.queue_checker.proofs.filled.is_whole.Given as goal

abbrev pub invariant-loop-field : goal.invariant-loop-field
invariant-loop-field l = l.all ≡ all_below l.field (is_filled l.size l.slots l.position)
