-- Offsets after ranges.
use Rattle.std.proofs.Common.{arith, ◌≡◌, ◌≤◌, ◌∙◌, ℕ, zero, suc, ◌+◌, ◌==◌, ◌&&◌, ◌||◌, Bool, true, false, List, [], ◌∷◌, ◌++◌, refl, ap, sym, eq-eqb}
use Rattle.std.specs.Prelude.{nat_lt}
use Rattle.std.specs.List.{list_any}
use Rattle.std.proofs.lemmas.Bool.{eqb-true, or_right, and_right}
use Rattle.std.proofs.Math.Bool.{or_assoc}
use Rattle.std.proofs.lemmas.List.Folds.{list_any-append}
use Rattle.std.proofs.lemmas.Bool.Decides.{nat_tests}
use Rattle.record_bytes.specs.declared.ranges.ByteRange.{ByteRange}
use Rattle.record_bytes.specs.Ranges.{range_has, has_byte, one_offset, onto_ranges, byte_ranges, with_offset}
use Rattle.record_bytes.specs.Naming.{offsets_below}

both_ends : (a b : ℕ) (rs : List ByteRange) → onto_ranges a (with_offset rs b) ≡ with_offset (onto_ranges a rs) b
both_ends a b [] = grind (arith, nat_tests)
both_ends a b (r ∷ []) = grind (arith, nat_tests)
both_ends a b (r ∷ s ∷ rs) = grind (arith, nat_tests)

pub ranges_more : (offsets : List ℕ) (b : ℕ) → byte_ranges (offsets ++ b ∷ []) ≡ with_offset (byte_ranges offsets) b
ranges_more [] b = refl
ranges_more (a ∷ offsets) b = ap (onto_ranges a) (ranges_more offsets b) ∙ both_ends a b (byte_ranges offsets)

-- ---- where the last range is known

pub longer : (rs : List ByteRange) (r : ByteRange) (b : ℕ) → r.last + 1 ≡ b
    → with_offset (rs ++ r ∷ []) b ≡ rs ++ record { first = r.first; last = b } ∷ []
longer [] r b next = grind (arith, nat_tests)
longer (q ∷ []) r b next = ap (λ (rs : List ByteRange). q ∷ rs) (longer [] r b next)
longer (q ∷ s ∷ rs) r b next = ap (λ (rs : List ByteRange). q ∷ rs) (longer (s ∷ rs) r b next)

pub one_more : (rs : List ByteRange) (r : ByteRange) (b : ℕ) → (r.last + 1 ≡ b → ⊥) → with_offset (rs ++ r ∷ []) b ≡ (rs ++ r ∷ []) ++ one_offset b ∷ []
one_more [] r b other = grind (arith, nat_tests)
one_more (q ∷ []) r b other = ap (λ (rs : List ByteRange). q ∷ rs) (one_more [] r b other)
one_more (q ∷ s ∷ rs) r b other = ap (λ (rs : List ByteRange). q ∷ rs) (one_more (s ∷ rs) r b other)

pub made_longer : (items rs new : List ByteRange) (r : ByteRange) (b : ℕ) → items ≡ rs ++ r ∷ [] → r.last + 1 ≡ b
    → new ≡ rs ++ record { first = r.first; last = b } ∷ [] → new ≡ with_offset items b
made_longer items rs new r b is next made = rw is (made ∙ sym (longer rs r b next))

pub made_more : (items rs new : List ByteRange) (r : ByteRange) (b : ℕ) → items ≡ rs ++ r ∷ [] → (r.last + 1 ≡ b → ⊥)
    → new ≡ (rs ++ r ∷ []) ++ one_offset b ∷ [] → new ≡ with_offset items b
made_more items rs new r b is other made = rw is (made ∙ sym (one_more rs r b other))

-- ---- which bytes ranges have

or-false : (x : Bool) → (x || false) ≡ x
or-false true = refl
or-false false = refl

in-longer : (a b : ℕ) (r : ByteRange) → b + 1 ≡ r.first → r.first ≤ r.last → range_has (record { first = b; last = r.last }) a ≡ ((a == b) || range_has r a)
in-longer a b r next some = grind (arith, nat_tests)

in-one : (a b : ℕ) → range_has (one_offset b) a ≡ (a == b)
in-one a b = grind (arith, nat_tests)

-- none of them is empty
abbrev pub AreSome : List ByteRange → Type 0
AreSome [] = Unit {0}
AreSome (r ∷ rs) = (r.first ≤ r.last) × AreSome rs

some-onto : (b : ℕ) (rs : List ByteRange) → AreSome rs → AreSome (onto_ranges b rs)
some-onto b [] some = (omega arith, tt)
some-onto b (r ∷ rs) some = by (b + 1 == r.first) refl
  where
    by : (t : Bool) → (b + 1 == r.first) ≡ t → AreSome (onto_ranges b (r ∷ rs))
    by true same = rw same (let next : b + 1 ≡ r.first = eqb-true _ _ same in (omega (arith, next, some.0), some.1))
    by false other = rw other (omega arith, some)

has-onto : (a b : ℕ) (rs : List ByteRange) → AreSome rs → has_byte (onto_ranges b rs) a ≡ ((a == b) || has_byte rs a)
has-onto a b [] some = grind (arith, nat_tests)
has-onto a b (r ∷ rs) some = by (b + 1 == r.first) refl
  where
    by : (t : Bool) → (b + 1 == r.first) ≡ t → has_byte (onto_ranges b (r ∷ rs)) a ≡ ((a == b) || has_byte (r ∷ rs) a)
    by true same = rw same (rw (in-longer a b r (eqb-true _ _ same) some.0) (or_assoc (a == b) (range_has r a) (has_byte rs a)))
    by false other = rw other (rw (in-one a b) refl)

are-some : (offsets : List ℕ) → AreSome (byte_ranges offsets)
are-some [] = tt
are-some (b ∷ offsets) = some-onto b (byte_ranges offsets) (are-some offsets)

-- the ranges of offsets have these bytes
pub has-offsets : (offsets : List ℕ) (a : ℕ) → has_byte (byte_ranges offsets) a ≡ list_any (λ b. a == b) offsets
has-offsets [] a = refl
has-offsets (b ∷ offsets) a = has-onto a b (byte_ranges offsets) (are-some offsets) ∙ ap (λ t. (a == b) || t) (has-offsets offsets a)

same-below : (n a : ℕ) → (a == n) ≡ false → nat_lt a (suc n) ≡ nat_lt a n
same-below n a other = grind (arith, nat_tests)

last-below : (n a : ℕ) → a ≡ n → nat_lt a (suc n) ≡ true
last-below n a same = grind (arith, nat_tests)

one-more-below : (p : ℕ → Bool) (n a : ℕ) → p n ≡ true → ((nat_lt a n && p a) || ((a == n) || false)) ≡ (nat_lt a (suc n) && p a)
one-more-below p n a passes = by (a == n) refl
  where
    by : (u : Bool) → (a == n) ≡ u → ((nat_lt a n && p a) || ((a == n) || false)) ≡ (nat_lt a (suc n) && p a)
    by true same =
        let at : a ≡ n = eqb-true a n same in
        let here : p a ≡ true = ap p at ∙ passes in
        let under = last-below n a at in
        rw (same, here, under) (or_right (nat_lt a n && true) true refl)
    by false other = rw (same-below n a other, other) (or-false (nat_lt a n && p a))

none-more-below : (p : ℕ → Bool) (n a : ℕ) → p n ≡ false → (nat_lt a n && p a) ≡ (nat_lt a (suc n) && p a)
none-more-below p n a fails = by (a == n) refl
  where
    by : (u : Bool) → (a == n) ≡ u → (nat_lt a n && p a) ≡ (nat_lt a (suc n) && p a)
    by true same =
        let at : a ≡ n = eqb-true a n same in
        let here : p a ≡ false = ap p at ∙ fails in
        rw here (and_right (nat_lt a n) false refl ∙ sym (and_right (nat_lt a (suc n)) false refl))
    by false other = rw (same-below n a other) refl

any-below : (p : ℕ → Bool) (n a : ℕ) → list_any (λ b. a == b) (offsets_below p n) ≡ (nat_lt a n && p a)
any-below p zero a = grind (arith, nat_tests)
any-below p (suc n) a = by (p n) refl (any-below p n a)
  where
    by : (t : Bool) → p n ≡ t → list_any (λ b. a == b) (offsets_below p n) ≡ (nat_lt a n && p a)
        → list_any (λ b. a == b) (offsets_below p (suc n)) ≡ (nat_lt a (suc n) && p a)
    by true passes before = rw passes (list_any-append (λ b. a == b) (offsets_below p n) (n ∷ [])
        ∙ ap (λ t. t || ((a == n) || false)) before ∙ one-more-below p n a passes)
    by false fails before = rw fails (before ∙ none-more-below p n a fails)

pub has-below : (p : ℕ → Bool) (n a : ℕ) → has_byte (byte_ranges (offsets_below p n)) a ≡ (nat_lt a n && p a)
has-below p n a = has-offsets (offsets_below p n) a ∙ any-below p n a

-- all bytes below a number are one range
pub whole : (n : ℕ) → byte_ranges (offsets_below (λ b. true) (suc n)) ≡ record { first = 0; last = n } ∷ []
whole zero = refl
whole (suc n) = ranges_more (offsets_below (λ b. true) (suc n)) (suc n) ∙ ap (λ rs. with_offset rs (suc n)) (whole n)
    ∙ (let next : (n + 1 == suc n) ≡ true = eq-eqb _ _ (omega arith) in rw next refl)

-- ---- one offset more

pub step-yes : (p : ℕ → Bool) (n : ℕ) → p n ≡ true → byte_ranges (offsets_below p (suc n)) ≡ with_offset (byte_ranges (offsets_below p n)) n
step-yes p n passes = rw passes (ranges_more (offsets_below p n) n)

pub step-no : (p : ℕ → Bool) (n : ℕ) → p n ≡ false → byte_ranges (offsets_below p (suc n)) ≡ byte_ranges (offsets_below p n)
step-no p n fails = rw fails refl
