-- Lists of marks.
use Rattle.std.proofs.Common.{ℕ, zero, suc, ◌≡◌, ◌<◌, ◌==◌, ◌&&◌, ◌||◌, not, Bool, true, false, Option, None, Some, List, [], ◌∷◌, ◌++◌, ◌+◌, length, take}
use Rattle.std.proofs.Common.{get_or, refl, sym, ap, subst, ◌∙◌, arith, inl, inr}
use Rattle.std.specs.Prelude.{nat_lt, min}
use Rattle.std.proofs.lemmas.Bool.{and_from, or_cases, or_from, or_left, or_right, cases_lt, ltb-true, lt-ltb}
use Rattle.std.proofs.lemmas.Bool.Decides.{nat_tests}
use Rattle.std.proofs.lemmas.List.Folds.{list_any_at, list_any_more}
use Rattle.std.proofs.Math.Seq.{get_or-append_seam}
use Rattle.std.proofs.Math.ListN.{get_or-append}
use Rattle.record_bytes.specs.declared.ranges.ByteRange.{ByteRange}
use Rattle.record_bytes.specs.Ranges.{has_byte, range_has}
use Rattle.records_written.specs.{Mark, Open, PartyLeaf, may_hand_on, is_mark, has_mark, marks_byte, marks_of, is_left, lower_of, lower, IsLowest}
use Rattle.records_written.specs.{IsEnd, IsFirstOpen}

abbrev pub no_mark : Mark
no_mark = record { position = 0; bytes = record { first = 0; last = 0 } }

-- ---- what is left of a mark without another

outside : (cut : ByteRange) (b : ℕ) → not (range_has cut b) ≡ (nat_lt b cut.first || nat_lt cut.last b)
outside cut b = grind (arith, nat_tests)

by-parts : (old there has low high inside : Bool) → not inside ≡ (low || high)
    → ((old || (there && (has && low))) || (there && (has && high))) ≡ (old || ((there && has) && not (there && inside)))
by-parts true there has low high inside is = refl
by-parts false false has low high inside is = refl
by-parts false true false low high inside is = refl
by-parts false true true low high inside is = sym is

pub rest-parts : (old there : Bool) (range cut : ByteRange) (b : ℕ) → ((old || (there && (range_has range b && nat_lt b cut.first)))
    || (there && (range_has range b && nat_lt cut.last b))) ≡ (old || ((there && range_has range b) && not (there && range_has cut b)))
rest-parts old there range cut b = by-parts old there (range_has range b) (nat_lt b cut.first) (nat_lt cut.last b) (range_has cut b) (outside cut b)

-- ---- the lowest byte

empty-mark : (m : Mark) (d b : ℕ) → nat_lt m.bytes.last m.bytes.first ≡ true → is_mark m d b ≡ false
empty-mark m d b empty = grind (arith, nat_tests)

first-mark : (m : Mark) → nat_lt m.bytes.last m.bytes.first ≡ false → is_mark m m.position m.bytes.first ≡ true
first-mark m some = grind (arith, nat_tests)

under-mark : (m : Mark) (d a : ℕ) → a < m.bytes.first → is_mark m d a ≡ false
under-mark m d a less = grind (arith, nat_tests)

module _ (ms more : List Mark) (m : Mark) (step : (d b : ℕ) → has_mark more d b ≡ (has_mark ms d b || is_mark m d b)) where
  same-lowest : ((d b : ℕ) → is_mark m d b ≡ false) → (found : Option ℕ) → IsLowest ms found → IsLowest more found
  same-lowest none None is = λ d b. step d b ∙ or_from (has_mark ms d b) (is_mark m d b) (is d b) (none d b)
  same-lowest none (Some x) is = (
    (is.0.0, step is.0.0 x ∙ or_left (has_mark ms is.0.0 x) (is_mark m is.0.0 x) is.0.1),
    λ d a less. step d a ∙ or_from (has_mark ms d a) (is_mark m d a) (is.1 d a less) (none d a),
  )

  lower-lowest : nat_lt m.bytes.last m.bytes.first ≡ false → (found : Option ℕ) → IsLowest ms found → IsLowest more (Some (lower_of found m.bytes.first))
  lower-lowest some None is = (
    (m.position, step m.position m.bytes.first ∙ or_right (has_mark ms m.position m.bytes.first) _ (first-mark m some)),
    λ d a less. step d a ∙ or_from (has_mark ms d a) (is_mark m d a) (is d a) (under-mark m d a less),
  )
  lower-lowest some (Some x) is = elim (cases_lt x m.bytes.first) [
    | inl less ↦ (let same : x ≡ min x m.bytes.first = omega (arith, less) in subst (λ (n : ℕ). IsLowest more (Some n)) same (
      (is.0.0, step is.0.0 x ∙ or_left (has_mark ms is.0.0 x) (is_mark m is.0.0 x) is.0.1),
      λ d a under. step d a ∙ or_from (has_mark ms d a) (is_mark m d a) (is.1 d a under) (under-mark m d a (omega (arith, less, under))),
    ))
    | inr over ↦ (let same : m.bytes.first ≡ min x m.bytes.first = omega (arith, over) in subst (λ (n : ℕ). IsLowest more (Some n)) same (
      (m.position, step m.position m.bytes.first ∙ or_right (has_mark ms m.position m.bytes.first) _ (first-mark m some)),
      λ d a under. step d a ∙ or_from (has_mark ms d a) (is_mark m d a) (is.1 d a (omega (arith, over, under))) (under-mark m d a under),
    ))
  ]

  pub lowest-more : (found : Option ℕ) → IsLowest ms found → IsLowest more (lower found m.bytes)
  lowest-more found is = by (nat_lt m.bytes.last m.bytes.first) refl
    where
      by : (t : Bool) → nat_lt m.bytes.last m.bytes.first ≡ t → IsLowest more (lower found m.bytes)
      by true empty = rw empty (same-lowest (λ d b. empty-mark m d b empty) found is)
      by false some = rw some (lower-lowest some found is)

-- one mark more, of which the other list has the same in its place
pub same-more : (ms ns : List Mark) (i : ℕ) → i < length ms → i < length ns
    → ((d b : ℕ) → is_mark (get_or ms i no_mark) d b ≡ is_mark (get_or ns i no_mark) d b)
    → ((d b : ℕ) → has_mark (take i ms) d b ≡ true → has_mark ns d b ≡ true) → (d b : ℕ) → has_mark (take (i + 1) ms) d b ≡ true → has_mark ns d b ≡ true
same-more ms ns i less short same before d b has = elim (or_cases (has_mark (take i ms) d b) (is_mark (get_or ms i no_mark) d b)
    (sym (list_any_more (λ m. is_mark m d b) ms i no_mark less) ∙ has)) [
      | inl old ↦ before d b old
      | inr here ↦ list_any_at (λ m. is_mark m d b) ns i no_mark short (sym (same d b) ∙ here)
    ]

-- ---- marks of all states

pub and-true : (t : Bool) → t ≡ (t && true)
and-true true = refl
and-true false = refl

pub opened-more : (all : List (Option (List Mark))) (own : Option (List Mark)) (n first : ℕ) → length all ≡ n
    → ((d b : ℕ) → marks_byte own d b ≡ not (n == first)) → ((m d b : ℕ) → m < n → marks_of all m d b ≡ not (m == first))
    → (m d b : ℕ) → m < n + 1 → marks_of (all ++ own ∷ []) m d b ≡ not (m == first)
opened-more all own n first size is before m d b less = elim (cases_lt m n) [
  | inl under ↦ ap (λ x. marks_byte x d b) (get_or-append all (own ∷ []) (Some []) m (omega (arith, size, under))) ∙ before m d b under
  | inr over ↦ (
      let at : length all ≡ m = omega (arith, size, less, over) in
      let last : n ≡ m = omega (arith, less, over) in
      ap (λ x. marks_byte x d b) (subst (λ (k : ℕ). get_or (all ++ own ∷ []) k (Some []) ≡ own) at (get_or-append_seam all own [] (Some [])))
      ∙ subst (λ (k : ℕ). marks_byte own d b ≡ not (k == first)) last (is d b))
]

pub left-all : (targets : List ℕ) (written : Bool) (m : ℕ) → written ≡ true → is_left targets written m ≡ true
left-all [] written m so = refl
left-all (to ∷ targets) written m so =
    and_from (not (to == m) || written) (is_left targets written m) (or_right (not (to == m)) written so) (left-all targets written m so)

pub same-left : (x : Bool) (targets others : List ℕ) (was written : Bool) (m : ℕ) → targets ≡ others → was ≡ written
    → (x && is_left targets was m) ≡ (x && is_left others written m)
same-left x targets others was written m same is = ap (λ ts. x && is_left ts was m) same ∙ ap (λ w. x && is_left others w m) is

-- an element that there is doesn't depend on what stands for one that there isn't
pub any-default : {A : Type 0} (xs : List A) (i : ℕ) (d e : A) → i < length xs → get_or xs i d ≡ get_or xs i e
any-default [] i d e less = absurd (omega (arith, less))
any-default (x ∷ xs) zero d e less = refl
any-default (x ∷ xs) (suc i) d e less = any-default xs i d e (omega (arith, less))

pub left-none : (old : Bool) (targets : List ℕ) (written : Bool) (m : ℕ) → written ≡ true → old ≡ (old && is_left targets written m)
left-none old targets written m so = and-true old ∙ sym (ap (λ t. old && t) (left-all targets written m so))

-- ---- what isn't marked

-- of the positions before an end, the first that lacks a byte is the first of those that these leaves may publish
pub open-within : (mask : List ByteRange) (own : ℕ → ℕ → Bool) (leaves : List PartyLeaf) (end : ℕ) (found : Option Open) → IsEnd leaves own end
    → IsFirstOpen mask own (λ d. d < end) found → IsFirstOpen mask own (λ d. may_hand_on leaves d ≡ true) found
open-within mask own leaves end None (inl bound) none = λ d handed b.
    none d (ltb-true d end (sym (bound d) ∙ handed)) b
open-within mask own leaves end None (inr (any, (e, less, unmarked))) none = λ d handed b.
    (let free : (has_byte mask b && not (own e b)) ≡ false = none e less b in
    let asked : has_byte mask b ≡ false = and-not (has_byte mask b) (own e b) (unmarked b) free in
    rw asked refl)
  where
    and-not : (x y : Bool) → y ≡ false → (x && not y) ≡ false → x ≡ false
    and-not x y none is = by x is
      where
        by : (t : Bool) → (t && not y) ≡ false → t ≡ false
        by false is = refl
        by true is = absurd (cc)
open-within mask own leaves end (Some o) (inl bound) (past, lacking, bytes, positions) =
    (bound o.position ∙ lt-ltb o.position end past, lacking, bytes, positions)
open-within mask own leaves end (Some o) (inr (any, last)) (past, lacking, bytes, positions) = (any o.position, lacking, bytes, positions)
