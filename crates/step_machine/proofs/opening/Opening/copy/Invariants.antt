use Rattle.std.proofs.Common.{◌≡◌, take}
use Rattle.step_machine.proofs.opening.Opening.copy.Given as goal

abbrev pub invariant-loop-hart : goal.invariant-loop-hart
invariant-loop-hart l = l.harts.items ≡ take l.hart-index l.hart-items
