use Rattle.std.proofs.Common.{ℕ, ◌≡◌, Option, drop}
use Rattle.ownership_runs.specs.inner.Logging.{logged_since}
use Rattle.ownership_runs.proofs.sent.sent_in.Given as goal

abbrev pub invariant-loop-place : goal.invariant-loop-place
invariant-loop-place l = (found : Option ℕ) → logged_since found (drop l.place l.later) l.position ≡ found
