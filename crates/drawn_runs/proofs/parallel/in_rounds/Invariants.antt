use Rattle.std.proofs.Common.{◌-◌, ◌≤◌}
use Rattle.drawn_runs.proofs.parallel.in_rounds.Given as goal

-- the rounds before this one
abbrev pub invariant-loop-done : goal.invariant-loop-done
invariant-loop-done g l = record {
  few : l.done ≤ l.runs;
  known : g.D.Trials.knows l.trials 0 l.done l.whole;
}

abbrev pub decreases-loop-done : goal.decreases-loop-done
decreases-loop-done g l = l.runs - l.done
