use Rattle.std.proofs.Common.{◌≡◌, length}
use Rattle.queue_progress.specs.Stays.{all_further}
use Rattle.queue_progress.proofs.stays.all_further.Given as goal

abbrev pub invariant-loop-states : goal.invariant-loop-states
invariant-loop-states l = all_further l.queue l.share l.states ≡ all_further l.queue l.share l.initial.states

abbrev pub decreases-loop-states : goal.decreases-loop-states
decreases-loop-states l = length l.states
