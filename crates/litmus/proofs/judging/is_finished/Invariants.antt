use Rattle.std.proofs.Common.{ℕ, ◌<◌}
use Rattle.step_machine.specs.Positions.{position_of}
use Rattle.litmus.specs.Verdicts.{HasFinishedAt}
use Rattle.litmus.proofs.judging.is_finished.Given as goal

abbrev pub invariant-loop-hart : goal.invariant-loop-hart
invariant-loop-hart g l = (h : ℕ) → h < l.hart → HasFinishedAt (position_of l.machine) h
