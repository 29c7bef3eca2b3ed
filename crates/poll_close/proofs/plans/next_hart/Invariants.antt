use Rattle.std.proofs.Common.{◌≡◌, ◌≤◌, ◌-◌}
use Rattle.poll_close.specs.Rankings.{next_of, is_ready}
use Rattle.poll_close.proofs.plans.next_hart.Given as goal

-- the last of the harts that were looked at
abbrev pub invariant-loop-hart : goal.invariant-loop-hart
invariant-loop-hart g l = (1 ≤ l.hart) × (l.next ≡ next_of (is_ready g.K.Finish.ranking g.row.M l.fn.machine.history) (l.hart - 1))
