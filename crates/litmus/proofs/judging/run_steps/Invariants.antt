use Rattle.std.proofs.Common.{◌≡◌, true, drop}
use Rattle.step_machine.specs.Positions.{position_of}
use Rattle.litmus.specs.{all_done, value_there}
use Rattle.litmus.proofs.judging.run_steps.Given as goal

abbrev pub invariant-loop-step : goal.invariant-loop-step
invariant-loop-step g l =
    all_done (value_there (position_of l.machine)) l.so_far l.skip (drop l.step-index l.steps) ≡ all_done (value_there (position_of l.machine)) true 0 l.steps
