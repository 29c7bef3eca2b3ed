use Rattle.std.proofs.Common.{take}
use Rattle.std.specs.Prelude.{All}
use Rattle.hart_threads.specs.Parts.{HasPart}
use Rattle.hart_threads.proofs.diary.have_parts.Given as goal

abbrev pub invariant-loop-seat : goal.invariant-loop-seat
invariant-loop-seat g l = All (HasPart l.memory) (take l.seat-index l.seats)
