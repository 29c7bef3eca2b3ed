use Rattle.std.proofs.Common.{◌≡◌, None}
use Rattle.ownership_runs.specs.Losses.{byte_lost, first_byte}
use Rattle.ownership_runs.specs.inner.Logging.{answered}
use Rattle.ownership_runs.proofs.judging_losses.first_lost.Given as goal

abbrev pub invariant-loop-number : goal.invariant-loop-number
invariant-loop-number l = first_byte
    (byte_lost l.queue l.place l.hart l.counts (answered l.queue l.counts l.log) l.load.addr l.load.width l.load.value)
    l.number ≡ None
