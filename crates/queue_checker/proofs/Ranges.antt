-- One range of a list changed.
use Rattle.std.specs.Prelude.{ℕ, zero, suc, ◌≡◌, List, [], ◌∷◌, Option, Some, get_or, set, refl}
use Rattle.std.proofs.Common.{ap}
use Rattle.queue_certificates.specs.Cases.{at_most, beyond, range_changed}

pub set_range_changed : (rs : List (Option ℕ)) (j : ℕ) (t : Option ℕ → Option ℕ) → set rs j (t (get_or rs j (Some 0))) ≡ range_changed rs j t
set_range_changed [] j t = refl
set_range_changed (r ∷ rs) zero t = refl
set_range_changed (r ∷ rs) (suc j) t = ap (λ xs. r ∷ xs) (set_range_changed rs j t)

pub set_low : (rs : List (Option ℕ)) (j v : ℕ) → set rs j (at_most v (get_or rs j (Some 0))) ≡ range_changed rs j (at_most v)
set_low rs j v = set_range_changed rs j (at_most v)

pub set_high : (rs : List (Option ℕ)) (j v : ℕ) → set rs j (beyond v (get_or rs j (Some 0))) ≡ range_changed rs j (beyond v)
set_high rs j v = set_range_changed rs j (beyond v)
