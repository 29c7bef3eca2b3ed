-- Lanes of one more row, and which lane is free.
use Rattle.std.proofs.Common.{◌≡◌, ℕ, zero, suc, ◌+◌, ◌-◌, ◌<◌, ◌==◌, true, false, if◌then◌else◌, List, [], ◌∷◌, ◌++◌, length, take, drop, get_or, Some, None}
use Rattle.std.proofs.Common.{refl, sym, ap, ◌∙◌, arith}
use Rattle.std.proofs.lemmas.Bool.{cases_Bool}
use Rattle.std.proofs.lemmas.List.{take_more, length-take}
use Rattle.std.proofs.Math.Seq.{drop-cons}
use Rattle.chart.specs.{Held, Shape, RowOf, is_held, first_free, held_by, laned_row, held_after, held_from, lanes_from, lanes_of, held_at_end}

-- ---- a step of each loop

one_lane : (held : List Held) (column k m n : ℕ) → m ≡ suc n →
    first_free held column k m ≡ (if is_held held column k then first_free held column (k + 1) n else Some k)
one_lane held column k m n more = rw more refl

pub first_free_more : (held : List Held) (column k n : ℕ) → k < n → is_held held column k ≡ true →
    first_free held column (k + 1) (n - (k + 1)) ≡ first_free held column k (n - k)
first_free_more held column k n below is = sym (one_lane held column k (n - k) (n - (k + 1)) (omega arith) ∙ rw is refl)

pub first_free_here : (held : List Held) (column k n : ℕ) → k < n → is_held held column k ≡ false → first_free held column k (n - k) ≡ Some k
first_free_here held column k n below is = one_lane held column k (n - k) (n - (k + 1)) (omega arith) ∙ rw is refl

pub first_free_all : (held : List Held) (column n : ℕ) → first_free held column n (n - n) ≡ None
first_free_all held column n = let none : n - n ≡ zero = omega arith in rw none refl

pub held_by_more : (row i : ℕ) (hs : List Held) (d : Held) → i < length hs → ((get_or hs i d).row == row) ≡ false →
    held_by row (drop (i + 1) hs) ≡ held_by row (drop i hs)
held_by_more row i hs d within is = grind (arith, get_or, drop-cons)

pub held_by_here : (row i : ℕ) (hs : List Held) (d : Held) → i < length hs → ((get_or hs i d).row == row) ≡ true →
    held_by row (drop i hs) ≡ Some (get_or hs i d)
held_by_here row i hs d within is = ap (held_by row) (drop-cons hs i d within) ∙ rw is refl

-- the first free lane is one of those that were looked at, and nobody holds it
pub first_free-is : (held : List Held) (column k n j : ℕ) → first_free held column k n ≡ Some j → (j < k + n) × (is_held held column j ≡ false)
first_free-is held column k zero j is = cc
first_free-is held column k (suc n) j is = grind (arith, cases_Bool, first_free-is held column (k + 1) n j)

-- ---- one more row

lanes_from-last : (shape : Shape) (n : ℕ) (held : List Held) (rs : List RowOf) (r : RowOf) →
    lanes_from shape n held (rs ++ r ∷ []) ≡ lanes_from shape n held rs ++ laned_row shape (n + length rs) (held_from shape n held rs) r ∷ []
lanes_from-last shape n held [] r = let here : n + 0 ≡ n = omega arith in rw here refl
lanes_from-last shape n held (x ∷ rs) r = grind (arith, lanes_from-last shape (n + 1) (held_after shape n held x) rs r)

held_from-last : (shape : Shape) (n : ℕ) (held : List Held) (rs : List RowOf) (r : RowOf) →
    held_from shape n held (rs ++ r ∷ []) ≡ held_after shape (n + length rs) (held_from shape n held rs) r
held_from-last shape n held [] r = let here : n + 0 ≡ n = omega arith in rw here refl
held_from-last shape n held (x ∷ rs) r = grind (arith, held_from-last shape (n + 1) (held_after shape n held x) rs r)

pub lanes_next : (shape : Shape) (i : ℕ) (rs : List RowOf) (d : RowOf) → i < length rs →
    lanes_of shape (take (i + 1) rs) ≡ lanes_of shape (take i rs) ++ laned_row shape i (held_at_end shape (take i rs)) (get_or rs i d) ∷ []
lanes_next shape i rs d within = grind (arith, length-take i rs, take_more rs i d within, lanes_from-last shape 0 [] (take i rs) (get_or rs i d), get_or rs i d)

pub held_next : (shape : Shape) (i : ℕ) (rs : List RowOf) (d : RowOf) → i < length rs →
    held_at_end shape (take (i + 1) rs) ≡ held_after shape i (held_at_end shape (take i rs)) (get_or rs i d)
held_next shape i rs d within = grind (arith, length-take i rs, take_more rs i d within, held_from-last shape 0 [] (take i rs) (get_or rs i d), get_or rs i d)
