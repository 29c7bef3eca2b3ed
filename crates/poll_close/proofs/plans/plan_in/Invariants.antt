use Rattle.std.proofs.Common.{◌≡◌, ◌<◌, ℕ, [], length}
use Rattle.step_machine.specs.Entries.{pending}
use Rattle.poll_close.specs.{rank_of, AllLanded}
use Rattle.poll_close.proofs.Planning.{Planned}
use Rattle.poll_close.proofs.plans.plan_in.Given as goal

abbrev pub invariant-loop-hart : goal.invariant-loop-hart
invariant-loop-hart g l = Planned g.K.RingKind.ring g.K.RingKind.meaning g.row.B g.row.M l.fn.machine.history
    l.plan.items l.machine.history × ((k : ℕ) → k < l.hart → pending k l.machine.history.entries ≡ [])

abbrev pub invariant-loop-machine : goal.invariant-loop-machine
invariant-loop-machine g l = Planned g.K.RingKind.ring g.K.RingKind.meaning g.row.B g.row.M l.fn.machine.history
    l.plan.items l.machine.history × ((k : ℕ) → k < l.hart → pending k l.machine.history.entries ≡ [])

abbrev pub decreases-loop-machine : goal.decreases-loop-machine
decreases-loop-machine g l = length (pending l.hart l.machine.history.entries)

abbrev pub invariant-loop-machine-2 : goal.invariant-loop-machine-2
invariant-loop-machine-2 g l = Planned g.K.RingKind.ring g.K.RingKind.meaning g.row.B g.row.M l.fn.machine.history
    l.plan.items l.machine.history × AllLanded l.machine.history

abbrev pub decreases-loop-machine-2 : goal.decreases-loop-machine-2
decreases-loop-machine-2 g l = rank_of g.K.Finish.ranking g.row.M l.machine.history
