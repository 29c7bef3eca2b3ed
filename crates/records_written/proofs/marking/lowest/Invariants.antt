use Rattle.std.proofs.Common.{take}
use Rattle.records_written.specs.PartyLeaves.{IsLowest}
use Rattle.records_written.proofs.marking.lowest.Given as goal

abbrev pub invariant-loop-mark : goal.invariant-loop-mark
invariant-loop-mark l = IsLowest (take l.mark-index l.marks) l.found
