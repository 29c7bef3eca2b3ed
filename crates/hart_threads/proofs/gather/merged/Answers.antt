-- Diaries that belong to the memory entries, put together, are a kept history, and each is its part of it.
use Rattle.hart_threads.specs.{SeatView, ArePlaced, HasPart, Merge, diaries_of, acts_for, lands_for, is_seated, IsComplete, is_landing_of, landings, own_lists}
use Rattle.hart_threads.specs.{HoldsPart, HasPartAs, ActsAmong, BelongsAs, Belongs, acting_diary}
use Rattle.hart_threads.proofs.gather.merged.Goals as goal
use Rattle.hart_threads.proofs.Least.{missing_within}
use Rattle.hart_threads.proofs.Coming.{harts_within}
use Rattle.std.proofs.Common.{◌≡◌, ℕ, List, length, lit<, Option, Some, None, sym, ap, subst, ◌∙◌, ◌⊎◌, inl, inr, zero, suc, ◌+◌, ◌<◌, ◌≤◌, ◌==◌, Bool, true}
use Rattle.std.proofs.Common.{false, not, ◌&&◌, cond, [], ◌∷◌, ◌++◌, get_or, refl, ap₂, arith, length-append}
use Rattle.std.specs.Prelude.{All, IfOk, MatchOption, Result, Ok, Err, count_by, if◌then◌else◌}
use Rattle.std.proofs.lemmas.Bool.{MatchBool-at_true, and_parts, cases_lt, eqb-true, eq-eqb, not-false, true≢false}
use Rattle.std.specs.List.{slice_get}
use Rattle.std.proofs.Math.Seq.{get_or-append_seam}
use Rattle.std.proofs.lemmas.List.{get_or_past}
use Rattle.std.proofs.lemmas.List.Elements.{All-nil, All-cons, All-head, All-tail, All-weaker}
use Rattle.std.proofs.lemmas.List.Recursion.{is_count_by}
use Rattle.step_machine.specs.declared.events.Entry.{Entry}
use Rattle.step_machine.specs.Names.{OpeningValue, history_of, WellFormed, placed, hart_of, is_land, is_own, own, is_memory, memory_of, IsOwn, IsMemoryEntry}
use Rattle.step_machine.specs.Names.{Parts, diary_of, PathOf, Legal}
use Rattle.step_machine.proofs.Placing.{own-placed, memory_placed, placed-kept}

-- Diaries that belong to memory entries: with each hart's other entries put back, the whole is kept, and
-- each diary is its seat's part of it.

-- ---- the one acting seat of a hart

abbrev counted : (SeatView → Bool) → List SeatView → ℕ
counted p [] = 0
counted p (x ∷ xs) = cond (p x) (1 + counted p xs) (counted p xs)

counted-is : (p : SeatView → Bool) (xs : List SeatView) → counted p xs ≡ count_by p xs
counted-is p xs = is_count_by (counted p) p refl (λ x ys. refl) xs

none_counted : (p : SeatView → Bool) (xs : List SeatView) → counted p xs ≡ 0 → All (λ x. p x ≡ false) xs
none_counted p [] is = All-nil (λ x. p x ≡ false)
none_counted p (x ∷ xs) is = grind (arith, All-cons, none_counted p xs)

-- a seat is the hart's only acting one
abbrev OnlyIn : ℕ → List Entry → SeatView → Type 0
OnlyIn h d s = acts_for h s ≡ true → s.diary ≡ d

only_acting : (h : ℕ) (ss : List SeatView) → counted (acts_for h) ss ≤ 1 → All (OnlyIn h (acting_diary h ss)) ss
only_acting h [] few = All-nil (OnlyIn h [])
only_acting h (s ∷ ss) few = at (only_acting h ss) (acts_for h s) refl few
  where
    at : (counted (acts_for h) ss ≤ 1 → All (OnlyIn h (acting_diary h ss)) ss) → (b : Bool) → acts_for h s ≡ b
        → cond b (1 + counted (acts_for h) ss) (counted (acts_for h) ss) ≤ 1
        → All (OnlyIn h (if b then s.diary else acting_diary h ss)) (s ∷ ss)
    at ih true is one =
        let none : counted (acts_for h) ss ≡ 0 = omega arith in
        All-cons (OnlyIn h s.diary) s ss (λ acts. refl)
        (All-weaker (λ t. acts_for h t ≡ false) (OnlyIn h s.diary)
        (λ t isnt acts. absurd (true≢false (sym acts ∙ isnt))) ss (none_counted (acts_for h) ss none))
    at ih false is one = All-cons (OnlyIn h (acting_diary h ss)) s ss (λ acts. absurd (true≢false (sym acts ∙ is))) (ih one)

-- there is one, of which all holds that holds of each seat
pub record Acting (P : SeatView → Type 0) (h : ℕ) (d : List Entry) : Type 0 where
  pub seat : SeatView
  pub holds : P seat
  pub acts : acts_for h seat ≡ true
  pub diary : seat.diary ≡ d

some_acting : (P : SeatView → Type 0) (h : ℕ) (ss : List SeatView) → 0 < counted (acts_for h) ss → All P ss → Acting P h (acting_diary h ss)
some_acting P h [] some all = absurd (omega arith)
some_acting P h (s ∷ ss) some all = at (λ more. some_acting P h ss more (All-tail P s ss all)) (acts_for h s) refl some
  where
    at : (0 < counted (acts_for h) ss → Acting P h (acting_diary h ss)) → (b : Bool) → acts_for h s ≡ b
        → 0 < cond b (1 + counted (acts_for h) ss) (counted (acts_for h) ss)
        → Acting P h (if b then s.diary else acting_diary h ss)
    at ih true is here = record { seat = s; holds = All-head P s ss all; acts = is; diary = refl }
    at ih false is here = ih here

seated_one : (n h : ℕ) (seats : List SeatView) → IsComplete n seats → h < n → counted (acts_for h) seats ≡ 1
seated_one n h seats complete lt =
    let seated : is_seated h seats ≡ true = not-false (is_seated h seats) (sym (missing_within n h seats lt) ∙ complete h) in
    counted-is (acts_for h) seats ∙ eqb-true (count_by (acts_for h) seats) 1
    (and_parts (count_by (acts_for h) seats == 1) (count_by (lands_for h) seats == 1) seated).0

-- ---- the diaries in order

pub its_acting : (P : SeatView → Type 0) (n h : ℕ) (seats : List SeatView) → IsComplete n seats → h < n → All P seats → Acting P h (acting_diary h seats)
its_acting P n h seats complete lt all =
    (let one : counted (acts_for h) seats ≡ 1 = seated_one n h seats complete lt in
    some_acting P h seats (omega arith) all)

pub role_of : (h : ℕ) (s : SeatView) → acts_for h s ≡ true → s.acts ≡ true
role_of h s is = (and_parts (s.hart == h) s.acts is).1

pub number_of : (h : ℕ) (s : SeatView) → acts_for h s ≡ true → s.hart ≡ h
number_of h s is = eqb-true s.hart h (and_parts (s.hart == h) s.acts is).0

length-diaries : (n : ℕ) (ss : List SeatView) → length (diaries_of n ss) ≡ n
length-diaries zero ss = refl
length-diaries (suc n) ss = grind (arith, length-append, length-diaries n ss)

get_left : (xs ys : List (List Entry)) (i : ℕ) → i < length xs → diary_of (xs ++ ys) i ≡ diary_of xs i
get_left [] ys i lt = absurd (omega arith)
get_left (x ∷ xs) ys zero lt = refl
get_left (x ∷ xs) ys (suc i) lt = get_left xs ys i (omega arith)

diary_at : (n h : ℕ) (ss : List SeatView) → h < n → diary_of (diaries_of n ss) h ≡ acting_diary h ss
diary_at zero h ss lt = absurd (omega arith)
diary_at (suc n) h ss lt = at (diary_at n h ss) (cases_lt h n)
  where
    at : (h < n → diary_of (diaries_of n ss) h ≡ acting_diary h ss) → (h < n) ⊎ (n ≤ h)
        → diary_of (diaries_of n ss ++ acting_diary n ss ∷ []) h ≡ acting_diary h ss
    at ih (inl less) = let count : length (diaries_of n ss) ≡ n = length-diaries n ss in
        get_left (diaries_of n ss) (acting_diary n ss ∷ []) h (omega arith) ∙ ih less
    at ih (inr more) =
        let count : length (diaries_of n ss) ≡ n = length-diaries n ss in
        let here : h ≡ n = omega arith in
        let place : h ≡ length (diaries_of n ss) = omega arith in
        ap (diary_of (diaries_of n ss ++ acting_diary n ss ∷ [])) place
        ∙ get_or-append_seam (diaries_of n ss) (acting_diary n ss) [] [] ∙ ap (λ k. acting_diary k ss) (sym here)

-- ---- they are the parts

own-beyond : (n h : ℕ) (us : List Entry) → n ≤ h → All (λ e. hart_of e < n) us → own h us ≡ []
own-beyond n h [] past all = refl
own-beyond n h (e ∷ us) past all = at (own-beyond n h us past (All-tail (λ d. hart_of d < n) e us all)) (is_own h e) refl
  where
    at : own h us ≡ [] → (b : Bool) → is_own h e ≡ b → (if b then e ∷ own h us else own h us) ≡ []
    at none true is =
        let his : hart_of e ≡ h = eqb-true (hart_of e) h (and_parts (hart_of e == h) (not (is_land e)) is).0 in
        let low : hart_of e < n = All-head (λ d. hart_of d < n) e us all in
        absurd (omega arith)
    at none false is = none

has_part : (M : ℕ) (o : OpeningValue) (us : List Entry) (s : SeatView) → Belongs M o us s → HasPart us s
has_part M o us s belongs = grind arith

pub have_parts : (M : ℕ) (o : OpeningValue) (us : List Entry) (seats : List SeatView) → All (Belongs M o us) seats → All (HasPart us) seats
have_parts M o us seats all = All-weaker (Belongs M o us) (HasPart us) (has_part M o us) seats all

quiet_landing : (h : ℕ) (e : Entry) → is_memory e ≡ false → is_landing_of h e ≡ false
quiet_landing h e isnt = grind arith

landings-memory : (h : ℕ) (es : List Entry) → landings h (memory_of es) ≡ landings h es
landings-memory h [] = refl
landings-memory h (e ∷ es) = grind (arith, quiet_landing, landings-memory h es)

-- of entries whose own entries, hart by hart, are the diaries
own_lists-are : (es : List Entry) (ss : List SeatView) (n : ℕ) → ((h : ℕ) → h < n → own h es ≡ acting_diary h ss) → own_lists n es ≡ diaries_of n ss
own_lists-are es ss zero each = refl
own_lists-are es ss (suc n) each =
    ap₂ (λ (ds : List (List Entry)) (d : List Entry). ds ++ d ∷ []) (own_lists-are es ss n (λ h lt. each h (omega arith))) (each n (omega arith))

-- the diaries of an opening's harts
abbrev pub diaries_in : OpeningValue → List SeatView → List (List Entry)
diaries_in o seats = diaries_of (length o.harts) seats

-- all seats are there, their diaries have their parts of these memory entries, and these are of the opening's harts
pub record ArePuttable (o : OpeningValue) (us : List Entry) (seats : List SeatView) : Type 0 where
  pub complete : IsComplete (length o.harts) seats
  pub parts : All (HasPart us) seats
  pub harts : All (λ e. hart_of e < length o.harts) us
  pub memory : All IsMemoryEntry us

module _ (o : OpeningValue) (us : List Entry) (seats : List SeatView) (known : ArePuttable o us seats) where
  -- what the acting seat of a hart says of its diary
  its_part : (h : ℕ) → h < length o.harts → (memory_of (diary_of (diaries_in o seats) h) ≡ own h us) × All (IsOwn h) (diary_of (diaries_in o seats) h)
  its_part h lt =
      let found : Acting (HasPart us) h (acting_diary h seats) = its_acting (HasPart us) (length o.harts) h seats known.complete lt known.parts in
      let role : found.seat.acts ≡ true = role_of h found.seat found.acts in
      let hart : found.seat.hart ≡ h = number_of h found.seat found.acts in
      let so : HasPartAs true us found.seat = subst (λ (b : Bool). HasPartAs b us found.seat) role found.holds in
      let same : diary_of (diaries_in o seats) h ≡ found.seat.diary = diary_at (length o.harts) h seats lt ∙ sym found.diary in (
        ap memory_of same ∙ so.0 ∙ ap (λ k. own k us) hart,
        subst (All (IsOwn h)) (sym same) (subst (λ (k : ℕ). All (IsOwn k) found.seat.diary) hart so.1),
      )

  pub parts : Parts (diaries_in o seats) us
  parts = record { mine = λ h. mine h (cases_lt h (length o.harts)); memory = λ h. memory h (cases_lt h (length o.harts)) }
    where
      none : (h : ℕ) → length o.harts ≤ h → diary_of (diaries_in o seats) h ≡ []
      none h past =
          (let many : length (diaries_in o seats) ≡ length o.harts = length-diaries (length o.harts) seats in
          get_or_past (diaries_in o seats) h [] (omega arith))

      mine : (h : ℕ) → (h < length o.harts) ⊎ (length o.harts ≤ h) → All (IsOwn h) (diary_of (diaries_in o seats) h)
      mine h (inl lt) = (its_part h lt).1
      mine h (inr past) = subst (All (IsOwn h)) (sym (none h past)) (All-nil (IsOwn h))

      memory : (h : ℕ) → (h < length o.harts) ⊎ (length o.harts ≤ h) → memory_of (diary_of (diaries_in o seats) h) ≡ own h us
      memory h (inl lt) = (its_part h lt).0
      memory h (inr past) = ap memory_of (none h past) ∙ sym (own-beyond (length o.harts) h us past known.harts)

  -- each diary is its seat's part of the whole
  fits : (s : SeatView) → HasPart us s → s.hart < length o.harts → OnlyIn s.hart (acting_diary s.hart seats) s → HoldsPart (placed (diaries_in o seats) us) s
  fits s has lt only = at s.acts refl has
    where
      whole : List Entry
      whole = placed (diaries_in o seats) us

      at : (b : Bool) → s.acts ≡ b → HasPartAs b us s → s.diary ≡ (if b then own s.hart whole else landings s.hart whole)
      at true acts so =
          let mine : acts_for s.hart s ≡ true = ap (λ b. b && s.acts) (eq-eqb s.hart s.hart refl) ∙ acts in
          only mine ∙ sym (diary_at (length o.harts) s.hart seats lt) ∙ sym (own-placed s.hart (diaries_in o seats) us parts)
      at false acts so =
          so ∙ ap (landings s.hart) (sym (memory_placed (diaries_in o seats) us known.memory parts)) ∙ landings-memory s.hart whole

  pub merged : Merge (length o.harts) (placed (diaries_in o seats) us) seats
  merged = record {
    complete = known.complete;
    fit = λ k d lt.
        let s : SeatView = get_or seats k d in
        let low : s.hart < length o.harts = harts_within (length o.harts) seats known.complete k d lt in
        let one : counted (acts_for s.hart) seats ≡ 1 = seated_one (length o.harts) s.hart seats known.complete low in
        fits s (known.parts k d lt) low (only_acting s.hart seats (omega arith) k d lt);
  }

  pub are_placed : ArePlaced (length o.harts) (placed (diaries_in o seats) us)
  are_placed =
      ap₂ placed
      (sym (own_lists-are (placed (diaries_in o seats) us) seats (length o.harts)
      (λ h lt. own-placed h (diaries_in o seats) us parts ∙ diary_at (length o.harts) h seats lt)))
      (sym (memory_placed (diaries_in o seats) us known.memory parts))

-- where each diary is a path besides, the whole is kept
pub whole_kept : (B M : ℕ) (o : OpeningValue) (us : List Entry) (seats : List SeatView) → ArePuttable o us seats
    → All (Belongs M o us) seats → Legal B (history_of o us)
    → WellFormed B M (history_of o (placed (diaries_in o seats) us))
whole_kept B M o us seats known all legal =
    placed-kept B M o (diaries_in o seats) us (length-diaries (length o.harts) seats) known.memory legal (parts o us seats known) its_path
  where
    its_path : (h : ℕ) → h < length o.harts → PathOf M (slice_get o.harts h) (diary_of (diaries_in o seats) h)
    its_path h lt =
        let found : Acting (Belongs M o us) h (acting_diary h seats) = its_acting (Belongs M o us) (length o.harts) h seats known.complete lt all in
        let so : ActsAmong M o us found.seat = subst (λ (b : Bool). BelongsAs b M o us found.seat) (role_of h found.seat found.acts) found.holds in
        subst (PathOf M (slice_get o.harts h)) (found.diary ∙ sym (diary_at (length o.harts) h seats lt))
        (subst (λ (k : ℕ). PathOf M (slice_get o.harts k) found.seat.diary) (number_of h found.seat found.acts) so.path)

-- what is known where there is a value, and where there is none
for_each : {A E : Type 0} (P N : Type 0) (Q S : A → Type 0)
    → (P → N) → ((x : A) → Q x → S x) → (r : Result (Option A) E) → IfOk r (λ o. MatchOption o P Q) → IfOk r (λ o. MatchOption o N S)
for_each P N Q S none some (Ok None) known = none known
for_each P N Q S none some (Ok (Some x)) known = some x known
for_each P N Q S none some (Err e) known = known

-- the entries that are placed
whole_is : (o : OpeningValue) (us es : List Entry) (seats : List SeatView) (n : ℕ) (ds : List (List Entry))
    → es ≡ placed ds us → ds ≡ diaries_of n seats → n ≡ length o.harts
    → es ≡ placed (diaries_in o seats) us
whole_is o us es seats n ds entries diaries harts = entries ∙ ap (λ (xs : List (List Entry)). placed xs us) (diaries ∙ ap (λ k. diaries_of k seats) harts)

pub record_of-requires : goal.record_of-requires
record_of-requires g c =
    let parts : All (HasPart c.args.memory.now) c.args.seats.now = MatchBool-at_true _ _ c.if-not-have_parts.false c.have_parts.ensures in
    let known : ArePuttable c.args.opening.now c.args.memory.now c.args.seats.now =
    record { complete = c.requires.complete; parts = parts; harts = c.requires.harts; memory = c.requires.memory }
    in
    let whole = whole_is c.args.opening.now c.args.memory.now _ c.args.seats.now _ _ c.in_ok-entries.ensures c.in_ok-diaries.ensures c.harts_of.ensures in (
      lit< tt,
      (
        c.requires.opens,
        subst (ArePlaced (length c.args.opening.now.harts)) (sym whole)
            (are_placed c.args.opening.now c.args.memory.now c.args.seats.now known),
      ),
    )

pub returns : goal.returns
returns g c =
    let o = c.args.opening.now in
    let us = c.args.memory.now in
    let seats = c.args.seats.now in
    let parts : All (HasPart c.args.memory.now) c.args.seats.now =
    MatchBool-at_true (All (HasPart us) seats) (All (HasPart us) seats → ⊥) c.if-not-have_parts.false c.have_parts.ensures in
    let known : ArePuttable c.args.opening.now c.args.memory.now c.args.seats.now =
    record { complete = c.requires.complete; parts = parts; harts = c.requires.harts; memory = c.requires.memory } in
    let whole = whole_is o us _ seats _ _ c.in_ok-entries.ensures c.in_ok-diaries.ensures c.harts_of.ensures in
    for_each _ _ _ _
    (λ not_kept all. not_kept (subst (λ (es : List Entry). WellFormed g.row.B g.row.M (history_of o es)) (sym whole)
    (whole_kept g.row.B g.row.M o us seats known all c.requires.legal)))
    (λ made is. (is.0, subst (λ (es : List Entry). Merge (length o.harts) es seats) (sym (is.1 ∙ whole)) (merged o us seats known)))
    c.record_of.result c.record_of.ensures
