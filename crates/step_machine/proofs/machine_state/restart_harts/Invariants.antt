use Rattle.std.proofs.Common.{◌≡◌, ◌++◌, take, drop}
use Rattle.std.specs.Prelude.{map}
use Rattle.hart.specs.Steps.{restarted}
use Rattle.step_machine.proofs.machine_state.restart_harts.Given as goal

abbrev pub invariant-loop-hart : goal.invariant-loop-hart
invariant-loop-hart l = l.harts ≡ map restarted (take l.hart-index l.fn.harts) ++ drop l.hart-index l.fn.harts
