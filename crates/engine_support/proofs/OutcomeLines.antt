-- The lines of outcomes, observed location by observed location.
use Rattle.std.proofs.Common.{arith, ◌≡◌, ℕ, List, [], ◌∷◌, ◌++◌, zip, sym, ◌∙◌, subst, append_assoc, inl, inr, ◌⊎◌, refl}
use Rattle.std.specs.List.{flat_map}
use Rattle.std.proofs.lemmas.List.{append-nil}

-- one more of some pairs is written
pub pair_written : {A B : Type 0} (f : A × B → List ℕ) (mid new all : List ℕ) (a : A) (b : B)
    (left_a rest_a : List A) (left_b rest_b : List B) → left_a ≡ a ∷ rest_a → left_b ≡ b ∷ rest_b
    → mid ++ flat_map f (zip left_a left_b) ≡ all → new ≡ mid ++ f (a, b) → new ++ flat_map f (zip rest_a rest_b) ≡ all
pair_written {A} {B} f mid new all a b left_a rest_a left_b rest_b is_a is_b so_far written = grind (arith, append_assoc)

zip_ended : {A B : Type 0} (ks : List A) (vs : List B) → (ks ≡ []) ⊎ (vs ≡ []) → zip ks vs ≡ []
zip_ended (a ∷ ks) (b ∷ vs) (inl none) = absurd cc
zip_ended (a ∷ ks) (b ∷ vs) (inr none) = absurd cc
zip_ended x y ends = refl

-- no pair is left
pub pairs_written : {A B : Type 0} (f : A × B → List ℕ) (out all : List ℕ) (ks : List A) (vs : List B)
    → (ks ≡ []) ⊎ (vs ≡ []) → out ++ flat_map f (zip ks vs) ≡ all → out ≡ all
pairs_written {A} {B} f out all ks vs ends so_far =
    sym (append-nil out) ∙ subst (λ (pairs : List (A × B)). out ++ flat_map f pairs ≡ all) (zip_ended ks vs ends) so_far

-- one more of some rows is written
pub line_written : {A : Type 0} (f : A → List ℕ) (out all : List ℕ) (left : List A) (entry : A) (rest : List A) → left ≡ entry ∷ rest
    → out ++ flat_map f left ≡ all → (out ++ f entry) ++ flat_map f rest ≡ all
line_written {A} f out all left entry rest is so_far = grind (arith, append_assoc)

-- no row is left
pub lines_written : {A : Type 0} (f : A → List ℕ) (out all : List ℕ) (left : List A) → left ≡ [] → out ++ flat_map f left ≡ all → out ≡ all
lines_written {A} f out all left none so_far = sym (append-nil out) ∙ subst (λ (rows : List A). out ++ flat_map f rows ≡ all) none so_far
