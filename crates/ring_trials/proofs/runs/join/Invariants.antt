use Rattle.ring_trials.specs.declared.runs.Total.{Total}
use Rattle.ring_trials.proofs.RunsLaws.{TakenIn, Both}
use Rattle.ring_trials.proofs.runs.join.Given as goal

abbrev pub invariant-loop-index : goal.invariant-loop-index
invariant-loop-index l = TakenIn Total Both l.initial.totals l.later l.index l.totals
