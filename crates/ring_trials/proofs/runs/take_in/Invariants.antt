use Rattle.poll_close.specs.declared.clean.Share.{Share}
use Rattle.ring_trials.proofs.RunsLaws.{TakenIn, OneMore}
use Rattle.ring_trials.proofs.runs.take_in.Given as goal

abbrev pub invariant-loop-index : goal.invariant-loop-index
invariant-loop-index l = TakenIn Share OneMore l.initial.totals l.shares l.index l.totals
