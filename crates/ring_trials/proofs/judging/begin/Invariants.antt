use Rattle.std.proofs.Common.{◌≡◌, ◌<◌, ℕ, Some, false}
use Rattle.std.specs.List.{slice_get}
use Rattle.poll_close.specs.declared.clean.Share.{Share}
use Rattle.ring_trials.proofs.judging.begin.Given as goal

abbrev pub invariant-loop-share : goal.invariant-loop-share
invariant-loop-share l = ((k : ℕ) (s : Share) → k < l.share-index → slice_get l.shares k ≡ Some s → (s.taken ≡ 0) × (s.closed ≡ false))
