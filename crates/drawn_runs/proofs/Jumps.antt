-- A jump of a congruential generator is as many words drawn.
use Rattle.std.proofs.Common.{◌≡◌, ℕ, zero, suc, ◌+◌, refl, sym, ap, ◌∙◌, arith}
use Rattle.rand_core.specs.Stream.{Stream}
use Rattle.rand_core.specs.Steps.{stream_of, steps_u32}
use Rattle.rand_core.proofs.StepsLemmas.{next_u32-stream_of}
use Rattle.rand_pcg.specs.Lcg.{Lcg, next, advance, state_after}
use Rattle.rand_pcg.specs.Pcg.{multiplier_64, pcg32}
use Rattle.recorder.specs.Drawing.{left_after}

pub stream_ahead : (n : ℕ) (g : Lcg) → stream_of (steps_u32 pcg32) (advance 64 multiplier_64 n g) ≡ left_after n (stream_of (steps_u32 pcg32) g)
unfolding left_after state_after
stream_ahead zero g = refl
stream_ahead (suc n) g =
    stream_ahead n (next 64 multiplier_64 g)
    ∙ ap (λ (s : Stream). left_after n s) (sym (ap (λ (p : ℕ × Stream). p.1) (next_u32-stream_of (steps_u32 pcg32) g)))

-- no jump
pub advance_none : (g : Lcg) → g ≡ advance 64 multiplier_64 0 g
unfolding state_after
advance_none g = refl

-- a jump and then another are one
pub advance_again : (more before : ℕ) (g : Lcg) → advance 64 multiplier_64 more (advance 64 multiplier_64 before g) ≡ advance 64 multiplier_64 (before + more) g
unfolding state_after
advance_again more zero g = let same : more ≡ 0 + more = omega arith in ap (λ (n : ℕ). advance 64 multiplier_64 n g) same
advance_again more (suc before) g =
    let next_one : suc (before + more) ≡ suc before + more = omega arith in
    advance_again more before (next 64 multiplier_64 g) ∙ ap (λ (n : ℕ). advance 64 multiplier_64 n g) next_one
