use Rattle.std.proofs.Common.{◌≡◌, take}
use Rattle.step_machine.specs.Names.{OpeningValue, History, at_opening, RepresentsHistory, RepresentsRunFrom}
use Rattle.recorder.specs.Replaying.{RecordFrom}
use Rattle.checking.proofs.judging.first_difference.Given as goal

-- the steps so far are the record of a run of each opening from which the machine came
abbrev pub invariant-loop-place : goal.invariant-loop-place
invariant-loop-place g l = (o : OpeningValue) → RepresentsRunFrom g.row.B g.row.M o l.fn.machine
    → (t : History) × RecordFrom g.row.B g.row.M (at_opening o) (take l.place l.steps) t × RepresentsHistory g.row.B g.row.M t l.machine × (t.opening ≡ o)
