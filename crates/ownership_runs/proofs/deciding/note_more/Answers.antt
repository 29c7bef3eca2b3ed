use Rattle.std.proofs.Common.{ℕ, ◌≡◌, ◌+◌, ◌*◌, ◌-◌, ◌^◌, subst, arith}
use Rattle.ownership_runs.specs.inner.Bounds.{STEP, AreCountsWithin}
use Rattle.ownership_runs.proofs.deciding.note_more.Goals as goal

pub returns-in-Ok-clause-within : goal.returns-in-Ok-clause-within
returns-in-Ok-clause-within c i within =
    let bound : ℕ = 2 ^ 64 - 1 + STEP * i in
    let further : bound + STEP ≡ 2 ^ 64 - 1 + STEP * (i + 1) = omega arith in
    record {
      counts = subst (λ (n : ℕ). AreCountsWithin n n c.in-Ok.after) further (c.in-Ok.ensures.within bound within.counts);
      place = omega (arith, within.place);
    }
