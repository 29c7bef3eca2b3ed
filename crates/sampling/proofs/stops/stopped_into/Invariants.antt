use Rattle.std.proofs.Common.{◌≡◌}
use Rattle.step_machine.specs.Positions.{position_of}
use Rattle.sampling.specs.inner.Stops.{first_stopped}
use Rattle.sampling.proofs.stops.stopped_into.Given as goal

abbrev pub invariant-loop-hart : goal.invariant-loop-hart
invariant-loop-hart g l = l.stopped.items ≡ first_stopped (position_of l.machine) l.hart
