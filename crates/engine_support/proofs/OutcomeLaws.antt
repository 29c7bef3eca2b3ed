-- The rows of a table are the lines of what is counted.
use Rattle.std.proofs.Common.{◌≡◌, ℕ, zero, suc, ◌<◌, Bool, true, false, cond, List, [], ◌∷◌, ◌++◌, length, map, get_or, All, Option, Some, option_map, refl}
use Rattle.std.proofs.Common.{sym, ap, ◌∙◌, subst, arith, ◌+◌, append_assoc}
use Rattle.std.specs.Prelude.{is_some, Contains}
use Rattle.std.specs.List.{flat_map, AllByRecursion, range_with_len}
use Rattle.std.specs.List.Sorted.{IsStrictlySortedBy}
use Rattle.std.specs.declared.cmp.Ordering.TheVariants.{Less}
use Rattle.std.specs.Ordering.{nat_cmp}
use Rattle.std.specs.Cmp.Lexicographic.{slice_cmp}
use Rattle.std.specs.Map.{keys_of, lookup}
use Rattle.std.specs.Global.{Vec}
use Rattle.std.proofs.lemmas.List.Elements.{All-tail}
use Rattle.litmus.specs.LitmusTests.{LitmusTest}
use Rattle.engine_support.specs.{Row, AreCountedLines, counted_by, counted_line, counted_of, is_key, AreFound, order, row_line}
use Rattle.engine_support.proofs.Rows.{same_is, same_itself}
use Rattle.std.proofs.lemmas.List.{append-nil}

abbrev Rows : Type 0 → Type 0
Rows F = List (Vec ℕ × Row F)

-- the outcomes that have a row
abbrev outcomes_of : {F : Type 0} → Rows F → List (List ℕ)
outcomes_of rows = map (λ e. e.0.items) rows

-- ---- they ascend

above_all : {F : Type 0} (key : Vec ℕ) (rows : Rows F) → AllByRecursion (λ (y : Vec ℕ). order key y ≡ Less) (keys_of rows)
    → AllByRecursion (λ (y : List ℕ). slice_cmp nat_cmp key.items y ≡ Less) (outcomes_of rows)
above_all key [] all = tt
above_all key (e ∷ rows) all = (all.0, above_all key rows all.1)

ascending_outcomes : {F : Type 0} (rows : Rows F) → IsStrictlySortedBy order (keys_of rows) → IsStrictlySortedBy (slice_cmp nat_cmp) (outcomes_of rows)
unfolding IsStrictlySortedBy
ascending_outcomes [] sorted = tt
ascending_outcomes (e ∷ rows) sorted = (above_all e.0 rows sorted.0, ascending_outcomes rows sorted.1)

-- ---- an outcome has a row exactly where something is counted of it

key_of_itself : (outcome : List ℕ) (key : Vec ℕ) → key.items ≡ outcome → is_key outcome key ≡ true
key_of_itself outcome key is = subst (λ (k : List ℕ). is_key k key ≡ true) is (same_itself key.items)

found_there : {F : Type 0} (outcome : List ℕ) (rows : Rows F) (k : ℕ) → k < length (outcomes_of rows)
    → get_or (outcomes_of rows) k outcome ≡ outcome → is_some (lookup (is_key outcome) rows) ≡ true
found_there outcome [] k below is = absurd (omega (arith, below))
found_there outcome (e ∷ rows) zero below is = ap (λ (b : Bool). is_some (cond b (Some e.1) (lookup (is_key outcome) rows))) (key_of_itself outcome e.0 is)
found_there outcome (e ∷ rows) (suc k) below is = grind (arith, found_there outcome rows k)

there_found : {F : Type 0} (outcome : List ℕ) (rows : Rows F) → is_some (lookup (is_key outcome) rows) ≡ true → Contains (outcomes_of rows) outcome
there_found outcome [] found = absurd cc
there_found outcome (e ∷ rows) found = by (is_key outcome e.0) refl found (there_found outcome rows)
  where
    by : (b : Bool) → is_key outcome e.0 ≡ b → is_some (cond b (Some e.1) (lookup (is_key outcome) rows)) ≡ true
        → (is_some (lookup (is_key outcome) rows) ≡ true → Contains (outcomes_of rows) outcome)
        → Contains (outcomes_of (e ∷ rows)) outcome
    by true is there rest = (0, omega arith, sym (same_is outcome e.0.items is))
    by false is there rest = let following = rest there in (suc following.0, omega (arith, following.1), following.2)

some_mapped : {A B : Type 0} (f : A → B) (o : Option A) → is_some (option_map f o) ≡ is_some o
some_mapped f o = grind arith

module _ {F : Type 0} (name : F → List ℕ) where
  some_counted : (rows : Rows F) (outcome : List ℕ) → is_some (counted_of name rows outcome) ≡ is_some (lookup (is_key outcome) rows)
  unfolding counted_of
  some_counted rows outcome = some_mapped (counted_by name) (lookup (is_key outcome) rows)

  -- ---- and its line says what is counted

  row-is : (test : LitmusTest) (whole : Rows F) (key : Vec ℕ) (row : Row F) → lookup (is_key key.items) whole ≡ Some row
      → row_line name test (key, row) ≡ counted_line test key.items (counted_of name whole key.items)
  unfolding counted_of
  row-is test whole key row found = sym (ap (λ (o : Option (Row F)). counted_line test key.items (option_map (counted_by name) o)) found)

  rows-are : (test : LitmusTest) (whole rows : Rows F) → All (λ e. lookup (is_key e.0.items) whole ≡ Some e.1) rows
      → flat_map (row_line name test) rows ≡ flat_map (λ outcome. counted_line test outcome (counted_of name whole outcome)) (outcomes_of rows)
  rows-are test whole [] found = refl
  rows-are test whole (e ∷ rows) found =
      ap (λ (line : List ℕ). line ++ flat_map (row_line name test) rows) (row-is test whole e.0 e.1 (found 0 e (omega arith)))
      ∙ ap (λ (lines : List ℕ). counted_line test e.0.items (counted_of name whole e.0.items) ++ lines)
      (rows-are test whole rows (All-tail (λ (d : Vec ℕ × Row F). lookup (is_key d.0.items) whole ≡ Some d.1) e rows found))

  pub are_lines : (test : LitmusTest) (rows : Rows F) → IsStrictlySortedBy order (keys_of rows) → AreFound rows
      → AreCountedLines test (counted_of name rows) (flat_map (row_line name test) rows)
  are_lines test rows sorted found = record {
    outcomes = outcomes_of rows;
    ascending = ascending_outcomes rows sorted;
    all = λ outcome. (
      λ there. some_counted rows outcome ∙ found_there outcome rows there.0 there.1 there.2,
      λ some. there_found outcome rows (sym (some_counted rows outcome) ∙ some),
    );
    text_is = rows-are test rows rows found;
  }

-- ---- lists made number by number

flat_map_from : (f : ℕ → List ℕ) (a n : ℕ) → flat_map f (range_with_len a (suc n)) ≡ flat_map f (range_with_len a n) ++ f (a + n)
flat_map_from f a zero = append-nil (f a) ∙ ap f (let e : a ≡ a + 0 = omega arith in e)
flat_map_from f a (suc n) = grind (arith, append_assoc, flat_map_from f (a + 1) n)

-- one number more
pub flat_map_counted : (f : ℕ → List ℕ) (n : ℕ) → flat_map f (range_with_len 0 (n + 1)) ≡ flat_map f (range_with_len 0 n) ++ f n
flat_map_counted f n = grind (arith, flat_map_from)

-- ---- a text to which line by line is added

-- nothing yet
pub none_added : (old shown : List ℕ) → shown ≡ [] → old ≡ old ++ shown
none_added old shown none = sym (append-nil old) ∙ ap (λ (xs : List ℕ). old ++ xs) (sym none)

-- one line more
pub one_added : (old mid new shown more line : List ℕ) → mid ≡ old ++ shown → new ≡ mid ++ line → more ≡ shown ++ line → new ≡ old ++ more
one_added old mid new shown more line before added is = grind (arith, append_assoc)
