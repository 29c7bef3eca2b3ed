use Rattle.std.proofs.Common.{◌≡◌, length}
use Rattle.hart_threads.specs.inner.{counting_entries}
use Rattle.hart_threads.proofs.rest.Rest.next_counted.Given as goal

abbrev pub invariant-loop-entry : goal.invariant-loop-entry
invariant-loop-entry l = counting_entries l.acts l.self ≡ counting_entries l.acts l.fn.self

abbrev pub decreases-loop-entry : goal.decreases-loop-entry
decreases-loop-entry l = length l.self
