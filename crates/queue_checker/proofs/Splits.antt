-- A state by two cases, of which the lower one holds and the higher one may be; and numbers below another, at one of which it isn't so.
use Rattle.std.specs.Prelude.{ℕ, zero, suc, ◌≡◌, ◌<◌, ◌&&◌, not, Bool, true, false, Some, List, get_or, refl}
use Rattle.std.proofs.Common.{sym, ◌∙◌, ap, arith, inl, inr}
use Rattle.std.proofs.lemmas.Bool.{cases_eq}
use Rattle.queue_certificates.specs.{all_below, Form, KnownState}
use Rattle.queue_certificates.specs.Cases.{Arrow, Cases, split, with_low, with_high, may_exceed, each_leaf}

pub high_case : (f : KnownState → Form → List Arrow → Bool) (k : KnownState) (cases : Cases) (j v : ℕ) (low high : Cases) (a w : KnownState)
    (x y : Cases) (b d : Bool) → cases ≡ split j v low high → b ≡ each_leaf f w y → b ≡ true → w ≡ with_low k j v → y ≡ low
    → d ≡ may_exceed v (get_or k.ranges j (Some 0)) → d ≡ true → a ≡ with_high k j v → x ≡ high → each_leaf f a x ≡ each_leaf f k cases
high_case f k cases j v low high a w x y b d is_split is_b b_true is_w is_y is_d d_true is_a is_x =
    let holds : each_leaf f (with_low k j v) low ≡ true = rw (← is_w, ← is_y, ← is_b) b_true in
    let exceeds : may_exceed v (get_or k.ranges j (Some 0)) ≡ true = sym is_d ∙ d_true in
    rw (is_split, is_a, is_x, holds, exceeds) refl

none_both : (a b : Bool) → b ≡ false → (a && b) ≡ false
none_both true b none = none
none_both false b none = refl

-- one that isn't so is enough
pub below_none : (n : ℕ) (f : ℕ → Bool) (d : ℕ) → d < n → f d ≡ false → all_below n f ≡ false
below_none zero f d less not = absurd (omega (arith, less))
below_none (suc n) f d less not = elim (cases_eq d n) [
  | inl same ↦ (let here : f n ≡ false = sym (ap f same) ∙ not in rw here refl)
  | inr far ↦ none_both (f n) (all_below n f) (below_none n f d (omega (arith, less, far)) not)
]
