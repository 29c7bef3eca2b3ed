use Rattle.std.proofs.Common.{◌≡◌, ℕ, ◌<◌, false}
use Rattle.hart_threads.specs.Missing.{is_missing}
use Rattle.hart_threads.proofs.missing.first_missing.Given as goal

abbrev pub invariant-loop-hart : goal.invariant-loop-hart
invariant-loop-hart g l = (k : ℕ) → k < l.hart → is_missing l.harts l.seats k ≡ false
