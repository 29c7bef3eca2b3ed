use Rattle.std.specs.List.Sorted.{IsStrictlySortedBy}
use Rattle.std.specs.Map.{keys_of}
use Rattle.engine_support.specs.inner.{order}
use Rattle.engine_support.proofs.Rows.{AreTaken}
use Rattle.engine_support.proofs.outcomes.Outcomes.take_in.Given as goal

abbrev pub invariant-loop-outcome : goal.invariant-loop-outcome
invariant-loop-outcome g l = record {
  taken : AreTaken g.F.FirstRun.name l.fn.self.rows.entries l.fn.later.rows.entries l.self.rows.entries l.outcome-iterator;
  sorted : IsStrictlySortedBy order (keys_of l.outcome-iterator);
}
