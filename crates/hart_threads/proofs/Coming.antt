-- Seats that come back with perhaps more in their diaries, and what is known of them by those given.
use Rattle.std.proofs.Common.{arith, inl, inr, ◌≡◌, ℕ, ◌+◌, ◌<◌, Bool, true, not, ◌&&◌, eqb, cond, List, [], ◌∷◌, ◌++◌, length, get_or, refl, sym, ◌∙◌, ap}
use Rattle.std.proofs.Common.{subst, append_assoc}
use Rattle.std.specs.Prelude.{map, fold, count_by, All}
use Rattle.std.specs.List.{AllZip, list_any, Contains}
use Rattle.std.proofs.lemmas.Bool.{cases_lt, eq-eqb, true≢false}
use Rattle.std.proofs.lemmas.List.Elements.{All-nil, All-cons, All-head, All-tail, All-contains, Contains-get_or}
use Rattle.std.proofs.lemmas.Slice.Zip.{all_zipped_more}
use Rattle.std.proofs.lemmas.List.Folds.{list_any-from_Any}
use Rattle.step_machine.specs.declared.events.Entry.{Entry}
use Rattle.step_machine.specs.History.{OpeningValue}
use Rattle.hart_threads.specs.{SeatView, Continues, is_missing, IsFirst, IsComplete, sits_at, acts_for, lands_for, HoldsPart, Merge, Refuses, GrowsInto}
use Rattle.hart_threads.specs.{IsMerged, Fails, fault_of, Gather}
use Rattle.hart_threads.specs.declared.record.Gather.TheVariants as gather
use Rattle.hart_threads.proofs.Least.{missing_past}

-- ---- two lists, element by element

pub zip_left : {A B : Type 0} (R : A → B → Type 0) (P : B → Type 0) (Q : A → Type 0)
    → ((x : A) (y : B) → R x y → P y → Q x) → (xs : List A) (ys : List B) → AllZip R xs ys → All P ys → All Q xs
zip_left R P Q step [] [] zip all = All-nil Q
zip_left R P Q step (x ∷ xs) (y ∷ ys) (here, more) all =
    All-cons Q x xs (step x y here (All-head P y ys all)) (zip_left R P Q step xs ys more (All-tail P y ys all))
zip_left R P Q step z other zip all = absurd zip

pub zip_right : {A B : Type 0} (R : A → B → Type 0) (P : A → Type 0) (Q : B → Type 0)
    → ((x : A) (y : B) → R x y → P x → Q y) → (xs : List A) (ys : List B) → AllZip R xs ys → All P xs → All Q ys
zip_right R P Q step [] [] zip all = All-nil Q
zip_right R P Q step (x ∷ xs) (y ∷ ys) (here, more) all =
    All-cons Q y ys (step x y here (All-head P x xs all)) (zip_right R P Q step xs ys more (All-tail P x xs all))
zip_right R P Q step z other zip all = absurd zip

-- the same of what the elements of one list show
pub zip_before : {A B C : Type 0} (R : A → B → Type 0) (S : C → B → Type 0) (P : A → Type 0) (f : A → C)
    → ((x : A) (y : B) → R x y → P x → S (f x) y) → (xs : List A) (ys : List B) → AllZip R xs ys → All P xs
    → AllZip S (map f xs) ys
zip_before R S P f step [] [] zip all = tt
zip_before R S P f step (x ∷ xs) (y ∷ ys) (here, more) all = (step x y here (All-head P x xs all), zip_before R S P f step xs ys more (All-tail P x xs all))
zip_before R S P f step z other zip all = absurd zip

pub zip_after : {A B C : Type 0} (R : A → B → Type 0) (S : A → C → Type 0) (f : B → C)
    → ((x : A) (y : B) → R x y → S x (f y)) → (xs : List A) (ys : List B) → AllZip R xs ys → AllZip S xs (map f ys)
zip_after R S f step [] [] zip = tt
zip_after R S f step (x ∷ xs) (y ∷ ys) (here, more) = (step x y here, zip_after R S f step xs ys more)
zip_after R S f step z other zip = absurd zip

-- some of the first list's elements have been joined, and these are out
pub record Joined {A B : Type 0} (R : A → B → Type 0) (whole out : List A) (came : List B) : Type 0 where
  pub front : List A
  pub split : whole ≡ front ++ out
  pub zip : AllZip R front came

pub joined_more : {A B : Type 0} (R : A → B → Type 0) (whole out later : List A) (came grown : List B) (x : A)
    (y : B) → Joined R whole out came → out ≡ x ∷ later → R x y → grown ≡ came ++ y ∷ [] → Joined R whole later grown
joined_more {A = A} {B = B} R whole out later came grown x y joined next here is = grind (arith, append_assoc, all_zipped_more)

-- ---- roles

-- a seat without its diary
record Role : Type 0 where
  pub hart : ℕ
  pub acts : Bool

abbrev role_of : SeatView → Role
role_of s = record { hart = s.hart; acts = s.acts }

same_roles : (n : ℕ) (given back : List SeatView) → AllZip (Continues n) given back → map role_of back ≡ map role_of given
same_roles n [] [] come = refl
same_roles n (s ∷ given) (t ∷ back) (on, come) =
    let head : role_of t ≡ role_of s = ap role_of on.is in
    let tail : map role_of back ≡ map role_of given = same_roles n given back come in
    cc
same_roles n x y come = absurd come

-- a test of roles counts alike
same_fold : (p : Role → Bool) (n : ℕ) (xs ys : List SeatView) → map role_of xs ≡ map role_of ys
    → fold (λ a s. a + cond (p (role_of s)) 1 0) n xs ≡ fold (λ a s. a + cond (p (role_of s)) 1 0) n ys
same_fold p n [] [] is = refl
same_fold p n (x ∷ xs) (y ∷ ys) is =
    let head : role_of x ≡ role_of y = cc in
    let tail : map role_of xs ≡ map role_of ys = cc in
    ap (λ (r : Role). fold (λ a s. a + cond (p (role_of s)) 1 0) (n + cond (p r) 1 0) xs) head ∙ same_fold p (n + cond (p (role_of y)) 1 0) xs ys tail
same_fold p n z other is = cc

same_count : (p : Role → Bool) (xs ys : List SeatView) → map role_of xs ≡ map role_of ys → count_by (λ s. p (role_of s)) xs ≡ count_by (λ s. p (role_of s)) ys
same_count p xs ys is = same_fold p 0 xs ys is

same_any : (p : Role → Bool) (xs ys : List SeatView) → map role_of xs ≡ map role_of ys → list_any (λ s. p (role_of s)) xs ≡ list_any (λ s. p (role_of s)) ys
same_any p [] [] is = refl
same_any p (x ∷ xs) (y ∷ ys) is =
    let head : role_of x ≡ role_of y = cc in
    let tail : map role_of xs ≡ map role_of ys = cc in
    let first : p (role_of x) ≡ p (role_of y) = ap p head in
    let rest : list_any (λ s. p (role_of s)) xs ≡ list_any (λ s. p (role_of s)) ys = same_any p xs ys tail in
    rw (first, rest) refl
same_any p z other is = cc

-- what is missing depends on harts and roles alone
same_missing : (k n h : ℕ) (given back : List SeatView) → AllZip (Continues k) given back → is_missing n back h ≡ is_missing n given h
unfolding is_missing
same_missing k n h given back come =
    let is : map role_of back ≡ map role_of given = same_roles k given back come in
    let acting : count_by (acts_for h) back ≡ count_by (acts_for h) given = same_count (λ (r : Role). eqb r.hart h && r.acts) back given is in
    let landing : count_by (lands_for h) back ≡ count_by (lands_for h) given = same_count (λ (r : Role). eqb r.hart h && not r.acts) back given is in
    let any : list_any (sits_at h) back ≡ list_any (sits_at h) given = same_any (λ (r : Role). eqb r.hart h) back given is in
    rw (acting, landing, any) refl

pub none_is_first : (n h : ℕ) (seats : List SeatView) → IsComplete n seats → IsFirst (is_missing n seats) h → ⊥
none_is_first n h seats complete first = true≢false (sym first.here ∙ complete h)

-- where no seat is missing, each is of a hart
pub harts_within : (n : ℕ) (seats : List SeatView) → IsComplete n seats → All (λ (s : SeatView). s.hart < n) seats
harts_within n seats complete k d lt = elim (cases_lt (get_or seats k d).hart n) [
  | inl low ↦ low
  | inr past ↦ absurd (true≢false (sym (found (get_or seats k d) (Contains-get_or seats k d lt))
      ∙ sym (missing_past n (get_or seats k d).hart seats past) ∙ complete (get_or seats k d).hart))
]
  where
    found : (s : SeatView) → Contains seats s → list_any (sits_at s.hart) seats ≡ true
    found s (i, low, is) = list_any-from_Any (sits_at s.hart) seats (i, s, low, is, eq-eqb s.hart s.hart refl)

-- ---- what is gathered of the seats that come back, by those that were given

grown : (n : ℕ) (es : List Entry) (s t : SeatView) → Continues n s t → HoldsPart es t → GrowsInto n es s
grown n es s t on fits = grind arith

pub merged_from : (n : ℕ) (o : OpeningValue) (es : List Entry) (given back : List SeatView)
    → IsComplete (length o.harts) given → AllZip (Continues n) given back → Merge (length o.harts) es back
    → IsMerged n o es given
merged_from n o es given back complete come merge = record {
  complete = complete;
  parts = zip_left (Continues n) (HoldsPart es) (GrowsInto n es) (grown n es) given back come merge.fit;
}

-- a refusal to gather the seats that come back
pub fails_from : (B M n : ℕ) (o : OpeningValue) (given back : List SeatView) (e : Gather)
    → IsComplete (length o.harts) given → AllZip (Continues n) given back → Refuses B M o back e
    → Fails B M n o given (fault_of e)
fails_from B M n o given back gather.NoMemory complete come why = complete
fails_from B M n o given back (gather.Missing h) complete come why =
    absurd (true≢false (sym why.here ∙ same_missing n (length o.harts) h given back come ∙ complete h))
fails_from B M n o given back (gather.Mismatch h es) complete come why =
    let all : All (λ (s : SeatView). s.hart < length o.harts) back = harts_within (length o.harts) back why.complete in
    let bad = why.misfit.bad in
    record {
      complete = complete;
      within = subst (λ (k : ℕ). k < length o.harts) bad.2 (All-contains (λ (s : SeatView). s.hart < length o.harts) back bad.0 all bad.1);
      back = back;
      come = come;
      refused = why;
    }
