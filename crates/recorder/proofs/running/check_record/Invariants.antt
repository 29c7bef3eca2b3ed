use Rattle.std.proofs.Common.{take}
use Rattle.step_machine.specs.Names.{History, at_opening, RepresentsHistory}
use Rattle.recorder.specs.Replaying.{RecordFrom}
use Rattle.recorder.proofs.running.check_record.Given as goal

abbrev pub invariant-loop-place : goal.invariant-loop-place
invariant-loop-place g l =
    (t : History) × RecordFrom g.row.B g.row.M (at_opening l.fn.opening) (take l.place l.steps) t
    × RepresentsHistory g.row.B g.row.M t l.machine
