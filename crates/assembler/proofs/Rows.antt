-- A table's rows and what is looked up in it, where no two rows have one name.
use Rattle.std.proofs.Common.{◌≡◌, ℕ, zero, suc, ◌<◌, Bool, true, false, not, ◌&&◌, List, [], ◌∷◌, length, get_or, Option, Some, refl, sym, ap, subst, ◌∙◌, inl}
use Rattle.std.proofs.Common.{inr, arith}
use Rattle.std.specs.List.{Contains, list_all}
use Rattle.std.specs.Str.{bytes_eq}
use Rattle.std.proofs.lemmas.Bool.{cases_Bool, cases_lt, and_parts, not-true}
use Rattle.std.proofs.lemmas.Slice.Eq.{bytes_eq-Decides}
use Rattle.rv_decode.specs.Registers.{row_of}

abbrev pub found_in : {V : Type 0} → List (List ℕ × V) → List ℕ → Option V
found_in rows text = row_of (λ row. row.0) (λ row. row.1) rows text

abbrev pub is_fresh : {V : Type 0} → List ℕ → List (List ℕ × V) → Bool
is_fresh name rows = list_all (λ row. not (bytes_eq name row.0)) rows

-- no name stands twice
abbrev pub are_apart : {V : Type 0} → List (List ℕ × V) → Bool
are_apart [] = true
are_apart (row ∷ rows) = is_fresh row.0 rows && are_apart rows

same_bytes : (a b : List ℕ) → bytes_eq a b ≡ true → a ≡ b
same_bytes a b e = (bytes_eq-Decides a b).0 e

equal_bytes : (a b : List ℕ) → a ≡ b → bytes_eq a b ≡ true
equal_bytes a b e = (bytes_eq-Decides a b).1 e

other_name : {V : Type 0} (name : List ℕ) (rows : List (List ℕ × V)) (text : List ℕ) (value : V) (k : ℕ)
    → is_fresh name rows ≡ true → k < length rows → get_or rows k (text, value) ≡ (text, value)
    → bytes_eq name text ≡ false
other_name name [] text value k fresh lt e = absurd (omega arith)
other_name name (row ∷ rows) text value zero fresh lt e =
    let split = and_parts (not (bytes_eq name row.0)) (is_fresh name rows) fresh in
    subst (λ (t : List ℕ). bytes_eq name t ≡ false) (ap (λ r. r.0) e) (not-true (bytes_eq name row.0) split.0)
other_name name (row ∷ rows) text value (suc k) fresh lt e =
    let split = and_parts (not (bytes_eq name row.0)) (is_fresh name rows) fresh in
    other_name name rows text value k split.1 (omega arith) e

row_at : {V : Type 0} (rows : List (List ℕ × V)) (text : List ℕ) (value : V) (k : ℕ) → are_apart rows ≡ true
    → k < length rows → get_or rows k (text, value) ≡ (text, value) → found_in rows text ≡ Some value
row_at [] text value k apart lt e = absurd (omega arith)
row_at (row ∷ rows) text value zero apart lt e = grind (arith, equal_bytes)
row_at (row ∷ rows) text value (suc k) apart lt e = grind (arith, and_parts, other_name, row_at rows text value k)

pub row_of_member : {V : Type 0} (rows : List (List ℕ × V)) (text : List ℕ) (value : V) → are_apart rows ≡ true
    → Contains rows (text, value) → found_in rows text ≡ Some value
row_of_member rows text value apart has = row_at rows text value has.0 apart has.1 has.2

some_is : {V : Type 0} (o : Option V) (x y : V) → o ≡ Some x → o ≡ Some y → x ≡ y
some_is o x y e f = (let g : Some x ≡ Some y = sym e ∙ f in cc)

first_member : {V : Type 0} (row : List ℕ × V) (rows : List (List ℕ × V)) (text : List ℕ) (value : V) → row.0 ≡ text
    → Some row.1 ≡ Some value → Contains (row ∷ rows) (text, value)
first_member row rows text value name e = (0, omega arith, ap (λ n. (n, row.1)) name ∙ ap (λ v. (text, v)) (some_is (Some row.1) row.1 value refl e))

pub member_of_row : {V : Type 0} (rows : List (List ℕ × V)) (text : List ℕ) (value : V) → found_in rows text ≡ Some value → Contains rows (text, value)
member_of_row [] text value e = absurd cc
member_of_row (row ∷ rows) text value e = elim (cases_Bool (bytes_eq row.0 text)) [
  | inl here ↦ first_member row rows text value (same_bytes row.0 text here) (rw here at e)
  | inr other ↦ (let rest = member_of_row rows text value (rw other at e) in (suc rest.0, omega (arith, rest.1), rest.2))
]

all_from : {V : Type 0} (p : List ℕ → Bool) (rows : List (List ℕ × V)) (text : List ℕ) (value : V) (k : ℕ)
    → list_all (λ row. p row.0) rows ≡ true → k < length rows → get_or rows k (text, value) ≡ (text, value)
    → p text ≡ true
all_from p [] text value k every lt e = absurd (omega arith)
all_from p (row ∷ rows) text value zero every lt e =
    let split = and_parts (p row.0) (list_all (λ r. p r.0) rows) every in
    subst (λ (t : List ℕ). p t ≡ true) (ap (λ r. r.0) e) split.0
all_from p (row ∷ rows) text value (suc k) every lt e =
    let split = and_parts (p row.0) (list_all (λ r. p r.0) rows) every in
    all_from p rows text value k split.1 (omega arith) e

-- what the name of each row passes, the name that is found passes
pub all_rows : {V : Type 0} (p : List ℕ → Bool) (rows : List (List ℕ × V)) (text : List ℕ) (value : V)
    → list_all (λ row. p row.0) rows ≡ true → Contains rows (text, value) → p text ≡ true
all_rows p rows text value every has = all_from p rows text value has.0 every has.1 has.2

-- ---- a test of each number below another

abbrev pub all_below : ℕ → (ℕ → Bool) → Bool
all_below zero test = true
all_below (suc k) test = test k && all_below k test

pub below_all : (k : ℕ) (test : ℕ → Bool) → all_below k test ≡ true → (n : ℕ) → n < k → test n ≡ true
below_all zero test all n lt = absurd (omega arith)
below_all (suc k) test all n lt = grind (arith, and_parts, cases_lt, below_all k test)
