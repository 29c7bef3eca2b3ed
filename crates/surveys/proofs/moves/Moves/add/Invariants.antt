use Rattle.std.proofs.Common.{◌≡◌, length}
use Rattle.surveys.proofs.moves.Moves.add.Given as goal

abbrev pub invariant-loop-hart : goal.invariant-loop-hart
invariant-loop-hart g l = length l.machine.harts ≡ length l.fn.machine.harts

abbrev pub invariant-loop-hart-2 : goal.invariant-loop-hart-2
invariant-loop-hart-2 g l = length l.machine.harts ≡ length l.fn.machine.harts
