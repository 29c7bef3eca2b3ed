use Rattle.shrink.specs.Shrinking.{IsPartOf}
use Rattle.shrink.proofs.passes.halve_pieces.Given as goal

abbrev pub invariant-loop-size : goal.invariant-loop-size
invariant-loop-size g l = record {
  stands : g.Q.Question.stands l.question l.bench;
  holds : g.Q.Question.holds l.question l.events.items;
  part : IsPartOf l.events.items l.fn.events.items;
}

abbrev pub decreases-loop-size : goal.decreases-loop-size
decreases-loop-size g l = l.size
