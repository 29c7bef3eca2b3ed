use Rattle.std.proofs.Common.{◌≡◌, take}
use Rattle.std.specs.Prelude.{map}
use Rattle.step_machine.specs.inner.Config.{opened_hart}
use Rattle.step_machine.proofs.opening.open_harts.Given as goal

abbrev pub invariant-loop-opening : goal.invariant-loop-opening
invariant-loop-opening l = l.harts.items ≡ map (opened_hart l.words) (take l.opening-index l.openings)
