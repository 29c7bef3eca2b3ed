-- What is left where the second of two lists has ended.
use Rattle.std.proofs.Common.{ℕ, ◌≡◌, ◌-◌, ◌<◌, ◌≤◌, get_or, take, drop, List, [], ◌∷◌, Option, Some, zero, suc, true, false, length, refl, arith}
use Rattle.std.proofs.lemmas.Grind.{common_steps}
use Rattle.queue_certificates.specs.Facts.{Fact, weighed}
use Rattle.queue_certificates.specs.Forms.{Form, dot, combined, number, differences, factor_at, agree, vanishes, most_of_sum, kept, are_in}

pub dot_ended : (ms xs : List ℕ) → length xs < 1 → dot ms xs ≡ 0
dot_ended [] xs h = refl
dot_ended (m ∷ ms) [] h = refl
dot_ended (m ∷ ms) (x ∷ xs) h = absurd (omega arith)

pub combined_ended : (ms : List ℕ) (gs : List Form) → length gs < 1 → combined ms gs ≡ number 0
combined_ended [] gs h = refl
combined_ended (m ∷ ms) [] h = refl
combined_ended (m ∷ ms) (g ∷ gs) h = absurd (omega arith)

pub differences_ended : (ms ns : List ℕ) → length ns < 1 → differences ms ns ≡ ms
differences_ended [] ns h = refl
differences_ended (m ∷ ms) [] h = refl
differences_ended (m ∷ ms) (n ∷ ns) h = absurd (omega arith)

pub agree_ended : (n : ℕ) (ms ks : List ℕ) → length ks < 1 → agree n ms ks ≡ vanishes n ms
agree_ended n [] [] h = refl
agree_ended n (m ∷ ms) [] h = refl
agree_ended n ms (k ∷ ks) h = absurd (omega arith)

pub most_ended : (rs : List (Option ℕ)) (ms : List ℕ) → length ms < 1 → most_of_sum rs ms ≡ Some 0
most_ended [] ms h = refl
most_ended (r ∷ rs) [] h = refl
most_ended (r ∷ rs) (m ∷ ms) h = absurd (omega arith)

pub vanishes_ended : (n : ℕ) (ms : List ℕ) → length ms < 1 → vanishes n ms ≡ true
vanishes_ended n [] h = refl
vanishes_ended n (m ∷ ms) h = absurd (omega arith)

pub kept_ended : (rs : List (Option ℕ)) (ms : List ℕ) → length ms < 1 → kept rs ms ≡ ms
kept_ended [] ms h = refl
kept_ended (r ∷ rs) [] h = refl
kept_ended (r ∷ rs) (m ∷ ms) h = absurd (omega arith)

pub are_in_ended : (rs : List (Option ℕ)) (gs : List Form) (ts : List (Option ℕ)) → 1 ≤ length gs → length ts < 1 → are_in rs gs ts ≡ false
are_in_ended rs [] ts g h = absurd (omega arith)
are_in_ended rs (g ∷ gs) [] p h = refl
are_in_ended rs (g ∷ gs) (t ∷ ts) p h = absurd (omega arith)

pub weighed_ended : (ms : List ℕ) (hs : List Fact) → length hs < 1 → weighed ms hs ≡ record { below = number 0; above = number 0 }
weighed_ended [] hs h = refl
weighed_ended (m ∷ ms) [] h = refl
weighed_ended (m ∷ ms) (g ∷ hs) h = absurd (omega arith)

-- a factor that isn't listed is 0
pub factor_listed : (ms : List ℕ) (j : ℕ) → factor_at ms j ≡ get_or ms j 0
factor_listed [] j = refl
factor_listed (m ∷ ms) zero = refl
factor_listed (m ∷ ms) (suc j) = factor_listed ms j

-- a list by its first element and what a pattern takes for its rest
pub first_and_rest : {X : Type 0} → (xs : List X) (d : X) → 1 ≤ length xs → xs ≡ get_or xs 0 d ∷ take (length xs - 1) (drop 1 xs)
first_and_rest [] d h = absurd (omega arith)
first_and_rest (x ∷ xs) d h = grind (arith, common_steps)
