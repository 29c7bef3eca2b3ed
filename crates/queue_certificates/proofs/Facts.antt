-- What follows from facts.
use Rattle.std.proofs.Common.{ℕ, ◌+◌, ◌-◌, ◌*◌, ◌≤◌, ◌≡◌, inl, inr, true, Option, Some, None, List, []}
use Rattle.std.proofs.Common.{◌∷◌, ◌++◌, refl, ◌∙◌, ap, subst, arith}
use Rattle.std.specs.Prelude.{map}
use Rattle.std.specs.List.{list_any}
use Rattle.std.proofs.lemmas.Bool.{or_cases, leb-true}
use Rattle.std.proofs.lemmas.Nat.{mul-le}
use Rattle.std.proofs.Math.Nat.{add-mul}
use Rattle.queue_certificates.specs.Forms.{Form, dot, form_value, number, first_variable, plus, times, lifted, differences, added, most_of_sum}
use Rattle.queue_certificates.specs.Forms.{fits_in, InRanges}
use Rattle.queue_certificates.specs.Facts.{Fact, Holds, AllHold, is_under, is_by, is_shown, weighed, is_derived, fact_by, differing, low_facts, high_facts}
use Rattle.queue_certificates.proofs.Forms.{value-plus, value-times, value-lifted, value-first, value-number}
use Rattle.queue_certificates.proofs.Bounds.{added-parts, dot-below}

-- what has more of a variable is made up for by the difference
pub more-dot : (ms ns xs : List ℕ) → dot ms xs ≤ dot ns xs + dot (differences ms ns) xs
more-dot [] ns xs = omega arith
more-dot (m ∷ ms) [] xs = omega arith
more-dot (m ∷ ms) (n ∷ ns) [] = omega arith
more-dot (m ∷ ms) (n ∷ ns) (x ∷ xs) =
    let rest : dot ms xs ≤ dot ns xs + dot (differences ms ns) xs = more-dot ms ns xs in
    let up : m * x ≤ (n + (m - n)) * x = mul-le m x (n + (m - n)) x (omega arith) (omega arith) in
    let parts : (n + (m - n)) * x ≡ n * x + (m - n) * x = add-mul n (m - n) x in omega (arith, rest, up, parts)

module _ (rs : List (Option ℕ)) (xs : List ℕ) (ranges : InRanges rs xs) where
  pub under-below : (f g : Form) → is_under rs f g ≡ true → form_value f xs ≤ form_value g xs
  under-below f g ok = by (added (Some f.constant) (most_of_sum rs (differences f.factors g.factors))) refl ok
    where
      by : (b : Option ℕ) → added (Some f.constant) (most_of_sum rs (differences f.factors g.factors)) ≡ b → fits_in b (Some g.constant) ≡ true
          → form_value f xs ≤ form_value g xs
      by None is ok = absurd (cc)
      by (Some n) is ok =
          let low : n ≤ g.constant = leb-true n g.constant ok in
          let s = added-parts (Some f.constant) (most_of_sum rs (differences f.factors g.factors)) n is in
          let first : f.constant ≡ s.left = cc (s.left_is) in
          let rest : dot (differences f.factors g.factors) xs ≤ s.right = dot-below rs (differences f.factors g.factors) xs s.right ranges s.right_is in
          let more : dot f.factors xs ≤ dot g.factors xs + dot (differences f.factors g.factors) xs = more-dot f.factors g.factors xs in
          omega (arith, low, first, rest, more, s.sum)

  pub by-fact : (h : Fact) (f g : Form) → Holds xs h → is_by rs h f g ≡ true → form_value f xs ≤ form_value g xs
  by-fact h f g holds ok =
      let both : form_value (plus f h.above) xs ≤ form_value (plus g h.below) xs = under-below (plus f h.above) (plus g h.below) ok in
      let left : form_value (plus f h.above) xs ≡ form_value f xs + form_value h.above xs = value-plus f h.above xs in
      let right : form_value (plus g h.below) xs ≡ form_value g xs + form_value h.below xs = value-plus g h.below xs in
      omega (arith, holds, both, left, right)

  by-any : (hs : List Fact) (f g : Form) → AllHold xs hs → list_any (λ h. is_by rs h f g) hs ≡ true → form_value f xs ≤ form_value g xs
  by-any [] f g all ok = absurd (cc)
  by-any (h ∷ hs) f g all ok = elim (or_cases (is_by rs h f g) (list_any (λ h. is_by rs h f g) hs) ok) [
    | inl here ↦ by-fact h f g all.0 here
    | inr later ↦ by-any hs f g all.1 later
  ]

  -- what is shown is so
  pub shown-below : (hs : List Fact) (f g : Form) → AllHold xs hs → is_shown rs hs f g ≡ true → form_value f xs ≤ form_value g xs
  shown-below hs f g all ok = elim (or_cases (is_under rs f g) (list_any (λ h. is_by rs h f g) hs) ok) [
    | inl alone ↦ under-below f g alone
    | inr one ↦ by-any hs f g all one
  ]

  weighed-holds : (ms : List ℕ) (hs : List Fact) → AllHold xs hs → Holds xs (weighed ms hs)
  weighed-holds [] hs all = omega arith
  weighed-holds (m ∷ ms) [] all = omega arith
  weighed-holds (m ∷ ms) (h ∷ hs) all =
      let rest : form_value (weighed ms hs).below xs ≤ form_value (weighed ms hs).above xs = weighed-holds ms hs all.1 in
      let one : m * form_value h.below xs ≤ m * form_value h.above xs = mul-le m (form_value h.below xs) m (form_value h.above xs) (omega arith) all.0 in
      let low : form_value (plus (times m h.below) (weighed ms hs).below) xs ≡ form_value (times m h.below) xs + form_value (weighed ms hs).below xs =
      value-plus (times m h.below) (weighed ms hs).below xs in
      let high : form_value (plus (times m h.above) (weighed ms hs).above) xs ≡ form_value (times m h.above) xs + form_value (weighed ms hs).above xs =
      value-plus (times m h.above) (weighed ms hs).above xs in
      let low-times : form_value (times m h.below) xs ≡ m * form_value h.below xs = value-times m h.below xs in
      let high-times : form_value (times m h.above) xs ≡ m * form_value h.above xs = value-times m h.above xs in
      omega (arith, rest, one, low, high, low-times, high-times)

  -- what is derived is so, whatever the multipliers are
  pub derived-holds : (hs : List Fact) (h : Fact) (ms : List ℕ) → AllHold xs hs → is_derived rs hs h ms ≡ true → Holds xs h
  derived-holds hs h ms all ok = by-fact (weighed ms hs) h.below h.above (weighed-holds ms hs all) ok

-- ---- two cases

pub facts-by : (t : Form → Form) (xs ys : List ℕ) → ((f : Form) → form_value (t f) ys ≡ form_value f xs) → (hs : List Fact)
    → (AllHold xs hs → AllHold ys (map (fact_by t) hs)) × (AllHold ys (map (fact_by t) hs) → AllHold xs hs)
facts-by t xs ys same [] = (λ all. tt, λ all. tt)
facts-by t xs ys same (h ∷ hs) =
    let below : form_value (t h.below) ys ≡ form_value h.below xs = same h.below in
    let above : form_value (t h.above) ys ≡ form_value h.above xs = same h.above in
    let rest = facts-by t xs ys same hs in (
      λ all. ((let le : form_value h.below xs ≤ form_value h.above xs = all.0 in omega (arith, below, above, le)), rest.0 all.1),
      λ all. ((let le : form_value (t h.below) ys ≤ form_value (t h.above) ys = all.0 in omega (arith, below, above, le)), rest.1 all.1),
    )

raised-value : (f : Form) (d : ℕ) (xs : List ℕ) → form_value (plus (lifted f) first_variable) (d ∷ xs) ≡ form_value f xs + d
raised-value f d xs =
    let sum : form_value (plus (lifted f) first_variable) (d ∷ xs) ≡ form_value (lifted f) (d ∷ xs) + form_value first_variable (d ∷ xs) =
    value-plus (lifted f) first_variable (d ∷ xs) in
    let low : form_value (lifted f) (d ∷ xs) ≡ form_value f xs = value-lifted f d xs in
    let one : form_value first_variable (d ∷ xs) ≡ d = value-first d xs in omega (arith, sum, low, one)

-- the new variable is the difference, and the older facts say what they did
abbrev Splits : (hs : List Fact) (f g : Form) (d : ℕ) (xs : List ℕ) → List Fact → Type 0
Splits hs f g d xs new = (AllHold (d ∷ xs) new → (form_value f xs + d ≡ form_value g xs) × AllHold xs hs)
    × (AllHold xs hs → form_value f xs + d ≡ form_value g xs → AllHold (d ∷ xs) new)

differing-by : (hs : List Fact) (f g : Form) (d : ℕ) (xs : List ℕ) → Splits hs f g d xs (differing f g ++ map (fact_by lifted) hs)
differing-by hs f g d xs = (
  λ all. (
    (let one : form_value (plus (lifted f) first_variable) (d ∷ xs) ≤ form_value (lifted g) (d ∷ xs) = all.0 in
        let two : form_value (lifted g) (d ∷ xs) ≤ form_value (plus (lifted f) first_variable) (d ∷ xs) = all.1.0 in
        omega (arith, one, two, low, high)),
    (facts-by lifted xs (d ∷ xs) (λ k. value-lifted k d xs) hs).1 all.1.1,
  ),
  λ all is. (omega (arith, is, low, high), (omega (arith, is, low, high), (facts-by lifted xs (d ∷ xs) (λ k. value-lifted k d xs) hs).0 all)),
)
  where
    low : form_value (plus (lifted f) first_variable) (d ∷ xs) ≡ form_value f xs + d
    low = raised-value f d xs

    high : form_value (lifted g) (d ∷ xs) ≡ form_value g xs
    high = value-lifted g d xs

pub low-splits : (hs : List Fact) (f g : Form) (d : ℕ) (xs : List ℕ)
    → (AllHold (d ∷ xs) (low_facts hs f g) → (form_value f xs + d ≡ form_value g xs) × AllHold xs hs)
    × (AllHold xs hs → form_value f xs + d ≡ form_value g xs → AllHold (d ∷ xs) (low_facts hs f g))
low-splits hs f g d xs = differing-by hs f g d xs

pub high-splits : (hs : List Fact) (f g : Form) (d : ℕ) (xs : List ℕ)
    → (AllHold (d ∷ xs) (high_facts hs f g) → (form_value g xs + 1 + d ≡ form_value f xs) × AllHold xs hs)
    × (AllHold xs hs → form_value g xs + 1 + d ≡ form_value f xs → AllHold (d ∷ xs) (high_facts hs f g))
high-splits hs f g d xs = subst (λ n. (AllHold (d ∷ xs) (high_facts hs f g) → (n + d ≡ form_value f xs) × AllHold xs hs)
    × (AllHold xs hs → n + d ≡ form_value f xs → AllHold (d ∷ xs) (high_facts hs f g)))
    (value-plus g (number 1) xs ∙ ap (λ n. form_value g xs + n) (value-number 1 xs)) (differing-by hs (plus g (number 1)) f d xs)

-- ---- laws

pub facts_shown : (rs : List (Option ℕ)) (xs : List ℕ) → InRanges rs xs → (hs : List Fact) → AllHold xs hs → (f g : Form)
    → is_shown rs hs f g ≡ true → form_value f xs ≤ form_value g xs
facts_shown rs xs ranges hs all f g ok = shown-below rs xs ranges hs f g all ok

pub facts_derived : (rs : List (Option ℕ)) (xs : List ℕ) → InRanges rs xs → (hs : List Fact) → AllHold xs hs → (h : Fact) (ms : List ℕ)
    → is_derived rs hs h ms ≡ true → Holds xs h
facts_derived rs xs ranges hs all h ms ok = derived-holds rs xs ranges hs h ms all ok
