-- The least hart of a bad one, one by one.
use Rattle.std.proofs.Common.{◌≡◌, ℕ, ◌+◌, ◌<◌, ◌≤◌, Bool, true, false, cond, List, [], ◌∷◌, ◌++◌, length, get_or, take, Option, Some, None, refl, sym, subst}
use Rattle.std.proofs.Common.{arith, not, eqb, ◌∙◌, ap, below_more}
use Rattle.std.specs.Prelude.{All, nat_lt, MatchOption}
use Rattle.std.proofs.lemmas.List.{take_more}
use Rattle.std.proofs.lemmas.List.Elements.{All-nil, All-cons, All-append, All-weaker, Contains-push, Contains-append_left}
use Rattle.std.proofs.lemmas.Bool.Decides.{nat_tests}
use Rattle.hart_threads.specs.{IsLeast, lesser, Found, SeatView, is_missing, is_seated, IsFirst, IsComplete, sits_at}
use Rattle.std.specs.List.{list_any}
use Rattle.std.proofs.lemmas.Bool.{cases_lt, eq-eqb, le-ltb, lt-ltb, ne_eqb}
use Rattle.std.proofs.lemmas.List.Folds.{list_any_none, list_any-from_Any}

one : {A : Type 0} (P : A → Type 0) (x : A) → P x → All P (x ∷ [])
one P x h = All-cons P x [] h (All-nil P)

-- one more good one
good_push : {A : Type 0} (hart : A → ℕ) (Good Bad : A → Type 0) (xs : List A) (x : A) (o : Option ℕ)
    → Found hart Good Bad xs o → Good x → Found hart Good Bad (xs ++ x ∷ []) o
good_push {A = A} hart Good Bad xs x None all good = All-append Good xs (x ∷ []) all (one Good x good)
good_push {A = A} hart Good Bad xs x (Some h) least good = record {
  bad = (least.bad.0, Contains-append_left xs (x ∷ []) least.bad.0 least.bad.1, least.bad.2, least.bad.3);
  below = All-append (λ (s : A). hart s < h → Good s) xs (x ∷ []) least.below (one (λ (s : A). hart s < h → Good s) x (λ lt. good));
}

-- one more bad one
bad_push : {A : Type 0} (hart : A → ℕ) (Good Bad : A → Type 0) (xs : List A) (x : A) (o : Option ℕ)
    → Found hart Good Bad xs o → Bad x → Found hart Good Bad (xs ++ x ∷ []) (Some (lesser o (hart x)))
bad_push {A = A} hart Good Bad xs x None all bad = record {
  bad = (x, Contains-push xs x, refl, bad);
  below = All-append (λ (s : A). hart s < hart x → Good s) xs (x ∷ [])
      (All-weaker Good (λ (s : A). hart s < hart x → Good s) (λ s good lt. good) xs all)
      (one (λ (s : A). hart s < hart x → Good s) x (λ lt. absurd (omega arith)));
}
bad_push {A = A} hart Good Bad xs x (Some h) least bad = at (nat_lt (hart x) h) refl
  where
    at : (b : Bool) → nat_lt (hart x) h ≡ b → IsLeast hart Good Bad (xs ++ x ∷ []) (cond b (hart x) h)
    at true is =
        let less : hart x < h = grind (arith, nat_tests) in
        record {
          bad = (x, Contains-push xs x, refl, bad);
          below = All-append (λ (s : A). hart s < hart x → Good s) xs (x ∷ [])
              (All-weaker (λ (s : A). hart s < h → Good s) (λ (s : A). hart s < hart x → Good s) (λ s good lt. good (omega arith)) xs least.below)
              (one (λ (s : A). hart s < hart x → Good s) x (λ lt. absurd (omega arith)));
        }
    at false is =
        let more : h ≤ hart x = grind (arith, nat_tests) in
        record {
          bad = (least.bad.0, Contains-append_left xs (x ∷ []) least.bad.0 least.bad.1, least.bad.2, least.bad.3);
          below = All-append (λ (s : A). hart s < h → Good s) xs (x ∷ []) least.below (one (λ (s : A). hart s < h → Good s) x (λ lt. absurd (omega arith)));
        }

pub good_more : {A : Type 0} (hart : A → ℕ) (Good Bad : A → Type 0) (xs : List A) (i : ℕ) (d : A) (o : Option ℕ)
    → i < length xs → Found hart Good Bad (take i xs) o → Good (get_or xs i d) → Found hart Good Bad (take (i + 1) xs) o
good_more {A = A} hart Good Bad xs i d o within found good =
    subst (λ (ys : List A). Found hart Good Bad ys o) (sym (take_more xs i d within)) (good_push hart Good Bad (take i xs) (get_or xs i d) o found good)

pub bad_more : {A : Type 0} (hart : A → ℕ) (Good Bad : A → Type 0) (xs : List A) (i : ℕ) (d : A) (o : Option ℕ)
    → i < length xs → Found hart Good Bad (take i xs) o → Bad (get_or xs i d)
    → Found hart Good Bad (take (i + 1) xs) (Some (lesser o (hart (get_or xs i d))))
bad_more {A = A} hart Good Bad xs i d o within found bad =
    subst (λ (ys : List A). Found hart Good Bad ys (Some (lesser o (hart (get_or xs i d)))))
    (sym (take_more xs i d within)) (bad_push hart Good Bad (take i xs) (get_or xs i d) o found bad)

-- ---- the least number that is missing: first among the harts, then past them

pub missing_within : (n h : ℕ) (seats : List SeatView) → h < n → is_missing n seats h ≡ not (is_seated h seats)
unfolding is_missing
missing_within n h seats lt = ap (λ (b : Bool). cond b (not (is_seated h seats)) (list_any (sits_at h) seats)) (lt-ltb h n lt)

pub missing_past : (n h : ℕ) (seats : List SeatView) → n ≤ h → is_missing n seats h ≡ list_any (sits_at h) seats
unfolding is_missing
missing_past n h seats le = ap (λ (b : Bool). cond b (not (is_seated h seats)) (list_any (sits_at h) seats)) (le-ltb h n le)

pub first_within : (n h : ℕ) (seats : List SeatView) (b : Bool) → h < n → b ≡ is_seated h seats → b ≡ false
    → ((k : ℕ) → k < h → is_missing n seats k ≡ false) → IsFirst (is_missing n seats) h
first_within n h seats b lt is isnt below = record { here = missing_within n h seats lt ∙ ap not (sym is ∙ isnt); below = below }

pub none_more : (n h : ℕ) (seats : List SeatView) (b : Bool) → h < n → b ≡ is_seated h seats → b ≡ true
    → ((k : ℕ) → k < h → is_missing n seats k ≡ false) → (k : ℕ) → k < h + 1 → is_missing n seats k ≡ false
none_more n h seats b lt is all below = below_more _ _ below (missing_within n h seats lt ∙ ap not (sym is ∙ all))

none_at : (k : ℕ) (seats : List SeatView) → All (λ (s : SeatView). s.hart < k) seats → list_any (sits_at k) seats ≡ false
none_at k seats all =
    list_any_none (sits_at k) seats (All-weaker (λ (s : SeatView). s.hart < k) (λ (s : SeatView). sits_at k s ≡ false)
    (λ s lt. ne_eqb s.hart k (λ is. omega arith)) seats all)

none_between : (n h k : ℕ) (seats : List SeatView) → n ≤ k → k < h → All (λ (s : SeatView). s.hart < h → s.hart < n) seats → list_any (sits_at k) seats ≡ false
none_between n h k seats le lt all = grind (arith, list_any_none, All-weaker, eqb, nat_tests)

pub first_past : (n i : ℕ) (seats : List SeatView) (o : Option ℕ) → n ≤ i
    → ((k : ℕ) → k < i → is_missing n seats k ≡ false) → Found (λ s. s.hart) (λ s. s.hart < n) (λ s. n ≤ s.hart) seats o
    → MatchOption o (IsComplete n seats) (IsFirst (is_missing n seats))
first_past n i seats o le below all = grind (arith, cases_lt, missing_past, none_at, All-weaker, list_any-from_Any, eq-eqb, none_between)
