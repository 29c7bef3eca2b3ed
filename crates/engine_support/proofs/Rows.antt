-- Rows by outcomes: what is found after one was changed or put in.
use Rattle.std.proofs.Common.{arith, ◌≡◌, ◌⊎◌, inl, inr, ℕ, ◌+◌, ◌<◌, Bool, true, false, cond, List, [], ◌∷◌, Option, Some, None, option_map, refl, sym, ap}
use Rattle.std.proofs.Common.{◌∙◌, subst}
use Rattle.std.specs.Prelude.{IfSome}
use Rattle.std.specs.declared.cmp.Ordering.{Ordering}
use Rattle.std.specs.declared.cmp.Ordering.TheVariants.{Less, Equal, Greater}
use Rattle.std.specs.Ordering.{is_eq, match_ordering, nat_cmp}
use Rattle.std.specs.Cmp.Lexicographic.{slice_cmp}
use Rattle.std.specs.Map.{lookup, set_value, keys_of}
use Rattle.std.specs.List.{AllByRecursion}
use Rattle.std.specs.List.Sorted.{IsStrictlySortedBy}
use Rattle.std.proofs.lemmas.Map.Keys.{sorted_head}
use Rattle.std.specs.BTreeMap.{insert_entry}
use Rattle.std.specs.Global.{Vec}
use Rattle.std.proofs.lemmas.Slice.Eq.{bytes_eq-Decides}
use Rattle.std.proofs.lemmas.Map.Text.{is_eq-slice_cmp}
use Rattle.engine_support.specs.{Row, Counted, counted_both, counted_by, counted_of, Counts, is_key, order}

pub same_is : (xs ys : List ℕ) → is_eq (slice_cmp nat_cmp xs ys) ≡ true → xs ≡ ys
same_is xs ys e = (bytes_eq-Decides xs ys).0 (sym (is_eq-slice_cmp xs ys) ∙ e)

pub same_itself : (xs : List ℕ) → is_eq (slice_cmp nat_cmp xs xs) ≡ true
same_itself xs = is_eq-slice_cmp xs xs ∙ (bytes_eq-Decides xs xs).1 refl

-- two tests of one answer, and two that never pass together
one_test : {X : Type 0} (b c : Bool) (v w : X) (o : Option X) → c ≡ b → cond c (Some v) o ≡ cond b (Some v) (cond c (Some w) o)
one_test b c v w o e = grind arith

two_tests : {X : Type 0} (b c : Bool) (v w : X) (o : Option X) → (c ≡ true → b ≡ true → ⊥)
    → cond c (Some w) (cond b (Some v) o) ≡ cond b (Some v) (cond c (Some w) o)
two_tests b c v w o apart = grind arith

either : {X : Type 0} (b : Bool) (x : X) → x ≡ cond b x x
either b x = grind arith

-- another value for the key that is found
lookup_set : {X : Type 0} (key other : List ℕ) (value : X) (rows : List (Vec ℕ × X))
    → lookup (is_key other) (set_value (is_key key) rows value)
    ≡ cond (is_eq (slice_cmp nat_cmp other key)) (option_map (λ (old : X). value) (lookup (is_key key) rows))
    (lookup (is_key other) rows)
lookup_set key other value [] = either (is_eq (slice_cmp nat_cmp other key)) None
lookup_set {X} key other value (e ∷ rows) = by (is_key key e.0) refl (lookup_set key other value rows)
  where
    by : (b : Bool) → is_key key e.0 ≡ b → lookup (is_key other) (set_value (is_key key) rows value)
        ≡ cond (is_eq (slice_cmp nat_cmp other key)) (option_map (λ (old : X). value) (lookup (is_key key) rows))
        (lookup (is_key other) rows)
        → lookup (is_key other) (cond b ((e.0, value) ∷ rows) (e ∷ set_value (is_key key) rows value))
        ≡ cond (is_eq (slice_cmp nat_cmp other key))
        (option_map (λ (old : X). value) (cond b (Some e.1) (lookup (is_key key) rows)))
        (cond (is_key other e.0) (Some e.1) (lookup (is_key other) rows))
    by true is rest = subst (λ (k : List ℕ). cond (is_key other e.0) (Some value) (lookup (is_key other) rows)
        ≡ cond (is_eq (slice_cmp nat_cmp other k)) (Some value)
        (cond (is_key other e.0) (Some e.1) (lookup (is_key other) rows))) (sym (same_is key e.0.items is))
        (one_test (is_key other e.0) (is_key other e.0) value e.1 (lookup (is_key other) rows) refl)
    by false is rest = at (is_eq (slice_cmp nat_cmp other key)) refl rest
      where
        at : (b : Bool) → is_eq (slice_cmp nat_cmp other key) ≡ b
            → lookup (is_key other) (set_value (is_key key) rows value)
            ≡ cond b (option_map (λ (old : X). value) (lookup (is_key key) rows)) (lookup (is_key other) rows)
            → cond (is_key other e.0) (Some e.1) (lookup (is_key other) (set_value (is_key key) rows value))
            ≡ cond b (option_map (λ (old : X). value) (lookup (is_key key) rows))
            (cond (is_key other e.0) (Some e.1) (lookup (is_key other) rows))
        at true same rest =
            let none : is_key other e.0 ≡ false = subst (λ (k : List ℕ). is_eq (slice_cmp nat_cmp k e.0.items) ≡ false) (sym (same_is other key same)) is in
            ap (λ (b : Bool). cond b (Some e.1) (lookup (is_key other) (set_value (is_key key) rows value))) none ∙ rest
        at false apart rest = ap (λ (o : Option X). cond (is_key other e.0) (Some e.1) o) rest

lookup_inserted : {X : Type 0} (key : Vec ℕ) (value : X) (other : List ℕ) (rows : List (Vec ℕ × X))
    → lookup (is_key other) (insert_entry order rows key value)
    ≡ cond (is_key other key) (Some value) (lookup (is_key other) rows)
lookup_inserted key value other [] = refl
lookup_inserted {X} key value other (e ∷ rows) = by (order key e.0) refl (lookup_inserted key value other rows)
  where
    by : (o : Ordering) → order key e.0 ≡ o → lookup (is_key other) (insert_entry order rows key value)
        ≡ cond (is_key other key) (Some value) (lookup (is_key other) rows)
        → lookup (is_key other)
        (match_ordering o ((key, value) ∷ e ∷ rows) ((e.0, value) ∷ rows) (e ∷ insert_entry order rows key value))
        ≡ cond (is_key other key) (Some value) (cond (is_key other e.0) (Some e.1) (lookup (is_key other) rows))
    by Less is rest = refl
    by Equal is rest =
        let same : e.0.items ≡ key.items = sym (same_is key.items e.0.items (ap is_eq is)) in
        one_test (is_key other key) (is_key other e.0) value e.1 (lookup (is_key other) rows) (ap (λ (k : List ℕ). is_eq (slice_cmp nat_cmp other k)) same)
    by Greater is rest =
        let apart : is_key other e.0 ≡ true → is_key other key ≡ true → ⊥ = λ at_e at_key.
        let same : is_eq (order key e.0) ≡ true =
        subst (λ (k : List ℕ). is_eq (slice_cmp nat_cmp key.items k) ≡ true)
        (sym (same_is other key.items at_key) ∙ same_is other e.0.items at_e) (same_itself key.items) in
        let none : is_eq (order key e.0) ≡ false = ap is_eq is in cc in
        ap (λ (o : Option X). cond (is_key other e.0) (Some e.1) o) rest
        ∙ two_tests (is_key other key) (is_key other e.0) value e.1 (lookup (is_key other) rows) apart

-- what was counted of the outcome, as the keys tell it
by_keys : (key : List ℕ) (later : Counted) (old new : (outcome : List ℕ) → Option Counted)
    → ((other : List ℕ) → new other ≡ cond (is_eq (slice_cmp nat_cmp other key)) (counted_both (old other) (Some later)) (old other)) → Counts key later old new
by_keys key later old new counts = λ other.
    subst (λ (b : Bool). new other ≡ cond b (counted_both (old other) (Some later)) (old other)) (is_eq-slice_cmp other key) (counts other)

module _ {F : Type 0} (name : F → List ℕ) where
  -- a row with later runs
  pub row-again : (later : Counted) (old : List (Vec ℕ × Row F)) (key : List ℕ) (row : Row F) → Some row ≡ lookup (is_key key) old
      → Counts key later (counted_of name old) (counted_of name (set_value (is_key key) old (record row { count = row.count + later.0 })))
  unfolding counted_of
  row-again later old key row found = by_keys key later (counted_of name old)
      (counted_of name (set_value (is_key key) old (record row { count = row.count + later.0 }))) (λ other.
      ap (option_map (counted_by name)) (lookup_set key other (record row { count = row.count + later.0 }) old)
      ∙ by other (is_eq (slice_cmp nat_cmp other key)) refl)
    where
      by : (other : List ℕ) (b : Bool) → is_eq (slice_cmp nat_cmp other key) ≡ b
          → option_map (counted_by name)
          (cond b (option_map (λ (old : Row F). record row { count = row.count + later.0 }) (lookup (is_key key) old))
          (lookup (is_key other) old))
          ≡ cond b (counted_both (counted_of name old other) (Some later)) (counted_of name old other)
      by other true same =
          let here : Some row ≡ lookup (is_key other) old = found ∙ ap (λ (k : List ℕ). lookup (is_key k) old) (sym (same_is other key same)) in
          rw (← found, ← here) refl
      by other false apart = refl

  -- a row of an outcome that had none
  pub row-first : (old : List (Vec ℕ × Row F)) (key : Vec ℕ) (row : Row F) → None ≡ lookup (is_key key.items) old
      → Counts key.items (counted_by name row) (counted_of name old) (counted_of name (insert_entry order old key row))
  unfolding counted_of
  row-first old key row none = by_keys key.items (counted_by name row) (counted_of name old) (counted_of name (insert_entry order old key row)) (λ other.
      ap (option_map (counted_by name)) (lookup_inserted key row other old) ∙ by other (is_key other key) refl)
    where
      by : (other : List ℕ) (b : Bool) → is_key other key ≡ b
          → option_map (counted_by name) (cond b (Some row) (lookup (is_key other) old))
          ≡ cond b (counted_both (counted_of name old other) (Some (counted_by name row))) (counted_of name old other)
      by other true same =
          let here : None ≡ lookup (is_key other) old = none ∙ ap (λ (k : List ℕ). lookup (is_key k) old) (sym (same_is other key.items same)) in
          rw (← here) refl
      by other false apart = refl

  -- nothing is counted of an outcome that has no row
  pub none_there : (rows : List (Vec ℕ × Row F)) (outcome : List ℕ) → None ≡ lookup (is_key outcome) rows → counted_of name rows outcome ≡ None
  unfolding counted_of
  none_there rows outcome none = ap (option_map (counted_by name)) (sym none)

  -- of no row nothing is counted
  pub nothing_there : (rows : List (Vec ℕ × Row F)) (outcome : List ℕ) → rows ≡ [] → counted_of name rows outcome ≡ None
  unfolding counted_of
  nothing_there rows outcome none = rw none refl

  -- the row that is found is one that something is counted of
  pub found-row : (Small : ℕ → Type 0) (rows : List (Vec ℕ × Row F)) (outcome : List ℕ) (found : Option (Row F))
      → found ≡ lookup (is_key outcome) rows → IfSome (counted_of name rows outcome) (λ seen. Small seen.0)
      → IfSome found (λ row. Small row.count)
  unfolding counted_of
  found-row Small rows outcome found is small = grind arith

  -- ---- the rows that are left to take in

  -- no row after another has its outcome
  none_later : (key : Vec ℕ) (other : List ℕ) (rest : List (Vec ℕ × Row F)) → is_key other key ≡ true
      → AllByRecursion (λ (k : Vec ℕ). order key k ≡ Less) (keys_of rest) → lookup (is_key other) rest ≡ None
  none_later key other [] same later = refl
  none_later key other (e ∷ rest) same later = grind (arith, same_is other key.items same, none_later key other rest same later.1)

  both_none : (seen : Option Counted) → counted_both seen None ≡ seen
  both_none seen = grind arith

  -- the later runs with this outcome were counted, or all of them are left
  abbrev pub IsTaken : (old later now left : Option Counted) → Type 0
  IsTaken old later now left = ((now ≡ counted_both old later) × (left ≡ None)) ⊎ ((now ≡ old) × (left ≡ later))

  -- of two tables the later one's rows were taken in, or are left
  abbrev pub AreTaken : (old later now left : List (Vec ℕ × Row F)) → Type 0
  AreTaken old later now left =
      (other : List ℕ) → IsTaken (counted_of name old other) (counted_of name later other) (counted_of name now other)
      (counted_of name left other)

  -- no count grows past what both tables say together
  few_together : (row : Row F) (old later now left : Option Counted) (most : ℕ) → left ≡ Some (counted_by name row) → IsTaken old later now left
      → IfSome {T = Counted} (counted_both old later) (λ seen. seen.0 < most) → IfSome {T = Counted} now (λ seen. seen.0 + row.count < most)
  few_together row old later now left most is (inl taken) few = absurd cc
  few_together row old later now left most is (inr free) few = grind arith

  -- what was taken in of no row that is left is what both say
  all_together : (old later now left : Option Counted) → left ≡ None → IsTaken old later now left → now ≡ counted_both old later
  all_together old later now left none (inl taken) = taken.0
  all_together old later now left none (inr free) = grind (arith, both_none)

  module _ (old later : List (Vec ℕ × Row F)) where
    -- a row was taken in of those that are left
    pub row_taken : (key : Vec ℕ) (row : Row F) (left rest now new : List (Vec ℕ × Row F)) → left ≡ (key, row) ∷ rest
        → IsStrictlySortedBy order (keys_of left) → Counts key.items (counted_by name row) (counted_of name now) (counted_of name new)
        → AreTaken old later now left → AreTaken old later new rest
    unfolding counted_of
    row_taken key row left rest now new is sorted counts so_far other = grind (arith, option_map, none_later, sorted_head, is_eq-slice_cmp)

    pub row_few : (key : Vec ℕ) (row : Row F) (left rest now : List (Vec ℕ × Row F)) (most : ℕ) → left ≡ (key, row) ∷ rest → AreTaken old later now left
        → IfSome {T = Counted} (counted_both (counted_of name old key.items) (counted_of name later key.items)) (λ seen. seen.0 < most)
        → IfSome {T = Counted} (counted_of name now key.items) (λ seen. seen.0 + row.count < most)
    unfolding counted_of
    row_few key row left rest now most is so_far few = grind (arith, option_map, same_itself, few_together)

    pub rows_done : (left now : List (Vec ℕ × Row F)) → left ≡ [] → AreTaken old later now left
        → (other : List ℕ) → counted_of name now other ≡ counted_both (counted_of name old other) (counted_of name later other)
    unfolding counted_of
    rows_done left now is so_far other = all_together _ _ _ (counted_of name left other) (rw is refl) (so_far other)
