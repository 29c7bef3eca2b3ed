-- What is known of the seats that come back, and so of the record, by those that were given.
use Rattle.hart_threads.specs.{SeatView, Continues, Merge, Ending, Calls, Ran, AsksBank, state_in, IsComplete, HoldsPart, IsLeast, landings, GetsOn, SeatGetsOn}
use Rattle.hart_threads.specs.{OpensAs, over, goes, waits, WhereDone, GotOn}
use Rattle.hart_threads.proofs.Coming.{none_is_first, merged_from, fails_from, zip_left, zip_right, zip_after, harts_within}
use Rattle.hart_threads.proofs.harts.run_harts.Goals as goal
use Rattle.hart_threads.specs.declared.turns.Ending.TheVariants as ending
use Rattle.hart_threads.proofs.GettingOn.{same_role}
use Rattle.std.proofs.Common.{◌≡◌, inr, ℕ, List, length, subst, sym, inl, ◌+◌, ◌<◌, ◌≤◌, Bool, true, ◌++◌, get_or, Option, Some, None, ◌∙◌, ap, arith}
use Rattle.std.specs.Prelude.{map, Result, Err, All, IsSomeAnd, option_map, if◌then◌else◌}
use Rattle.std.specs.List.{AllZip, Contains, slice_get}
use Rattle.std.proofs.lemmas.Result.{err_from_is_err_and}
use Rattle.std.proofs.lemmas.List.{get_or-map, length-map}
use Rattle.std.proofs.lemmas.List.Elements.{All-contains}
use Rattle.hart.specs.State.{HartState}
use Rattle.step_machine.specs.declared.events.Entry.{Entry}
use Rattle.step_machine.specs.Names.{HartOpeningValue, OpeningValue, History, own, after_entries, opens_as, state_of}

-- What threads made of the seats that were given, and how far each hart got in the record.

-- ---- one seat

-- where the seat lets its hart act, that went on from where it was given
abbrev Went : ℕ → SeatView → SeatView → Type 0
Went n s t = t.acts ≡ true → GotOn n s t

-- a seat that opened as its hart, and whose diary is its part of the entries
abbrev OpensInto : ℕ → OpeningValue → List Entry → SeatView → Type 0
OpensInto M o es t = OpensAs M o t × HoldsPart es t

where_done : (e : Ending) (P : Type 0) → (e ≡ ending.NoMemory → ⊥) → (e ≡ ending.NoHart → ⊥) → WhereDone e P → P
where_done e P found served done = grind arith

went : (unheld : Type 0) (n : ℕ) (s : SeatView) (e : Ending) (c : Calls) (t : SeatView)
    → unheld → Ran unheld n s e c t → (e ≡ ending.NoMemory → ⊥) → (t.acts ≡ true → e ≡ ending.NoHart → ⊥) → Went n s t
went unheld n s e c t is_open ran found served acts = grind (arith, where_done, same_role)

-- ---- in the record

-- what is known of the hart of an acting seat after some of its entries
module _ (M : ℕ) (t : History) (h : ℕ) (s : SeatView) (acts : s.acts ≡ true) (hart : s.hart ≡ h) (into : OpensInto M t.opening t.entries s) where
  its_diary : s.diary ≡ own h t.entries
  its_diary = into.1 ∙ ap (λ (b : Bool). if b then own s.hart t.entries else landings s.hart t.entries) acts ∙ ap (λ k. own k t.entries) hart

  by_seat : (es : List Entry) (P : HartState → Type 0) → IsSomeAnd (option_map (λ f. after_entries f es) s.first) P
      → IsSomeAnd (option_map (λ o. after_entries (opens_as M o) es) (slice_get t.opening.harts h)) P
  by_seat es P some =
      at (slice_get t.opening.harts h) (subst (λ (f : Option HartState). IsSomeAnd (option_map (λ s. after_entries s es) f) P)
      (into.0 acts ∙ ap (λ k. option_map (opens_as M) (slice_get t.opening.harts k)) hart) some)
    where
      at : (so : Option HartOpeningValue)
          → IsSomeAnd (option_map (λ f. after_entries f es) (option_map (opens_as M) so)) P
          → IsSomeAnd (option_map (λ o. after_entries (opens_as M o) es) so) P
      at None some = some
      at (Some o) some = some

  in_state : (P : HartState → Type 0) → IsSomeAnd (state_in s) P → IsSomeAnd (state_of M t h) P
  in_state P some = by_seat (own h t.entries) P (subst (λ (es : List Entry). IsSomeAnd (option_map (λ f. after_entries f es) s.first) P) its_diary some)

  gets_on : (n : ℕ) (given : SeatView) → GotOn n given s → GetsOn n M t h given.diary
  gets_on n given (inl is_over) = over (in_state _ is_over)
  gets_on n given (inr (inl more)) = goes (subst (λ (es : List Entry). length given.diary + n ≤ length es) its_diary more)
  gets_on n given (inr (inr waited)) = waits (record {
    more = waited.more;
    rest = waited.rest;
    whole = sym its_diary ∙ waited.whole;
    there = by_seat (given.diary ++ waited.more) _ waited.there;
  })

-- ---- all seats

contains_map : {X Y : Type 0} (f : X → Y) (xs : List X) (x : X) → Contains xs x → Contains (map f xs) (f x)
contains_map f xs x (k, low, is) = (k, subst (λ n. k < n) (sym (length-map xs f)) low, get_or-map f xs k x (f x) low ∙ ap f is)

module _ {R : Type 0} (seat : R → SeatView) (ending_of : R → Ending) (calls_of : R → Calls) (unheld : Type 0)
    (n : ℕ) (given : List SeatView) (back : List R)
    (ran : AllZip (λ s r. Ran unheld n s (ending_of r) (calls_of r) (seat r)) given back) where
  pub came : AllZip (Continues n) given (map seat back)
  came = zip_after (λ (s : SeatView) (r : R). Ran unheld n s (ending_of r) (calls_of r) (seat r)) (Continues n) seat (λ s r made. made.on) given back ran

  -- a seat that comes back had memory and its hart in the bank, opened as its hart, and its diary is its part
  abbrev Back : ℕ → History → R → Type 0
  Back M t r = (ending_of r ≡ ending.NoMemory → ⊥) × ((seat r).acts ≡ true → ending_of r ≡ ending.NoHart → ⊥) × OpensInto M t.opening t.entries (seat r)

  -- without the hart it asked the bank
  abbrev Asked : R → Type 0
  Asked r = (seat r).acts ≡ true → ending_of r ≡ ending.NoHart → IsSomeAnd (state_in (seat r)) AsksBank

  -- each opens as its hart, and its diary is its part
  all_into : (M : ℕ) (o : OpeningValue) (t : History) → t.opening ≡ o → All (OpensAs M o) given → Merge (length o.harts) t.entries (map seat back)
      → All (OpensInto M t.opening t.entries) (map seat back)
  all_into M o t opening opens merge k d low =
      let all : All (OpensAs M o) (map seat back) = zip_right (Continues n) (OpensAs M o) (OpensAs M o)
      (λ s t on. subst (OpensAs M o) (sym on.is)) given (map seat back) came opens in
      (subst (λ (x : OpeningValue). OpensAs M x (get_or (map seat back) k d)) (sym opening) (all k d low), merge.fit k d low)

  pub all_get_on : (M : ℕ) (o : OpeningValue) (t : History) → t.opening ≡ o → unheld → All (OpensAs M o) given
      → All (λ r. ending_of r ≡ ending.NoMemory → ⊥) back
      → All (λ r. (seat r).acts ≡ true → ending_of r ≡ ending.NoHart → ⊥) back → Merge (length o.harts) t.entries (map seat back)
      → All (SeatGetsOn n M t) given
  all_get_on M o t opening is_open opens found served merge =
      zip_left (λ (s : SeatView) (r : R). Ran unheld n s (ending_of r) (calls_of r) (seat r)) (Back M t) (SeatGetsOn n M t) one given back ran all_back
    where
      into : All (OpensInto M t.opening t.entries) (map seat back)
      into = all_into M o t opening opens merge

      all_back : All (Back M t) back
      all_back k d low = (
        found k d low,
        served k d low,
        subst (OpensInto M t.opening t.entries) (get_or-map seat back k d (seat d) low)
            (into k (seat d) (subst (λ m. k < m) (sym (length-map back seat)) low)),
      )

      one : (s : SeatView) (r : R) → Ran unheld n s (ending_of r) (calls_of r) (seat r) → Back M t r → SeatGetsOn n M t s
      one s r made came_back acts =
          let role : (seat r).acts ≡ true = same_role n s (seat r) made.on ∙ acts in
          let number : (seat r).hart ≡ s.hart = ap (λ (v : SeatView). v.hart) made.on.is in
          gets_on M t s.hart (seat r) role number came_back.2 n s
          (went unheld n s (ending_of r) (calls_of r) (seat r) is_open made came_back.0 came_back.1 role)

  -- a seat that is left without its hart is one of these
  pub lost_within : (k h : ℕ) (Good Bad : R → Type 0) → IsComplete k given → IsLeast (λ r. (seat r).hart) Good Bad back h → h < k
  lost_within k h Good Bad complete least =
      let within : All (λ (r : R). (seat r).hart < k) back =
      zip_right (λ (s : SeatView) (r : R). Ran unheld n s (ending_of r) (calls_of r) (seat r)) (λ (s : SeatView). s.hart < k) (λ (r : R). (seat r).hart < k)
      (λ s r made low. subst (λ (v : SeatView). v.hart < k) (sym made.on.is) low) given back ran (harts_within k given complete) in
      subst (λ (x : ℕ). x < k) least.bad.2 (All-contains (λ (r : R). (seat r).hart < k) back least.bad.0 within least.bad.1)

  -- and where it opened as its hart, that asks the bank
  pub lost_asks : (M : ℕ) (o : OpeningValue) (t : History) (h : ℕ) (Good : R → Type 0) → t.opening ≡ o
      → IsLeast (λ r. (seat r).hart) Good (λ r. ((seat r).acts ≡ true) × (ending_of r ≡ ending.NoHart)) back h
      → Merge (length o.harts) t.entries (map seat back) → All (OpensAs M o) given → IsSomeAnd (state_of M t h) AsksBank
  lost_asks M o t h Good opening least merge opens =
      let r : R = least.bad.0 in
      let asks : Asked r =
      All-contains Asked back r (zip_right (λ (s : SeatView) (x : R). Ran unheld n s (ending_of x) (calls_of x) (seat x)) (OpensAs M o) Asked
      (λ s x made opens_so acts. made.asks (sym (same_role n s (seat x) made.on) ∙ acts)) given back ran opens) least.bad.1 in
      let into : OpensInto M t.opening t.entries (seat r) =
      All-contains (OpensInto M t.opening t.entries) (map seat back) (seat r) (all_into M o t opening opens merge) (contains_map seat back r least.bad.1) in
      in_state M t h (seat r) least.bad.3.0 least.bad.2 into AsksBank (asks least.bad.3.0 least.bad.3.1)

-- each seat that comes back continues the one that was given
come_back : {X : Type 0} (seat : X → SeatView) (end : X → Ending) (calls : X → Calls) (unheld : Type 0) (n : ℕ) (given seats : List SeatView) (back : List X)
    → AllZip (λ s r. Ran unheld n s (end r) (calls r) (seat r)) given back → seats ≡ map seat back → AllZip (Continues n) given seats
come_back seat end calls unheld n given seats back ran is =
    subst (AllZip (Continues n) given) (sym is) (came seat end calls unheld n given back ran)

-- an error that is passed on in another result
same_error : {T U E : Type 0} (r : Result U E) (e f g : E) → r ≡ Err e → e ≡ f → ◌≡◌ {A = Result T E} (Err f) (Err g) → r ≡ Err g
same_error r e f g is from same = cc

pub returns-in_err-back-clause-missing : goal.returns-in_err-back-clause-missing
returns-in_err-back-clause-missing g c h first =
    let p = err_from_is_err_and c.from_residual.result c.from_residual.ensures.1 in
    same_error _ _ _ _ p.1 p.2 (c.in_err-back.ensures.missing h first)

pub returns-in_err-back-clause-fault : goal.returns-in_err-back-clause-fault
returns-in_err-back-clause-fault g c =
    let p = err_from_is_err_and c.from_residual.result c.from_residual.ensures.1 in rw (p.1, p.2) c.in_err-back.ensures.fault

pub returns-in_err-record-clause-missing : goal.returns-in_err-record-clause-missing
returns-in_err-record-clause-missing g c h first = absurd (none_is_first _ h _ c.in_ok-back.ensures.complete first)

pub returns-in_err-record-clause-fault : goal.returns-in_err-record-clause-fault
returns-in_err-record-clause-fault g c =
    let p = err_from_is_err_and c.from_residual-in_err-record.result c.from_residual-in_err-record.ensures.1 in
    let come = come_back (λ r. r.0.seat) (λ r. r.1) (λ r. r.2) _ _ _ _ _ c.in_ok-back.ensures.ran c.release_all.ensures in
    rw (p.1, p.2)
    (fails_from g.row.B g.row.M c.args.turns c.args.shared c.args.seats.items c.release_all.result.items
    c.in_err-record.field-0.0 c.in_ok-back.ensures.complete come c.in_err-record.ensures.refused)

pub returns-in-Some-clause-missing : goal.returns-in-Some-clause-missing
returns-in-Some-clause-missing g c h first = absurd (none_is_first _ h _ c.in_ok-back.ensures.complete first)

pub returns-in-Some-clause-fault : goal.returns-in-Some-clause-fault
returns-in-Some-clause-fault g c =
    let ran = c.in_ok-back.ensures.ran in
    let come = come_back (λ r. r.0.seat) (λ r. r.1) (λ r. r.2) _ _ _ _ _ ran c.release_all.ensures in
    inr (record {
      within = lost_within (λ r. r.0.seat) (λ r. r.1) (λ r. r.2) _ c.args.turns c.args.seats.items
          c.in_ok-back.back.items ran (length c.args.shared.harts) c.in-Some.hart _ _ c.in_ok-back.ensures.complete
          (rw c.as_slice.ensures.value at c.in-Some.ensures);
      made = c.in_ok-record.record;
      record_of = c.in_ok-record.ensures.record;
      merge = merged_from c.args.turns c.args.shared c.in_ok-record.record.trace.entries c.args.seats.items
          c.release_all.result.items c.in_ok-back.ensures.complete come c.in_ok-record.ensures.merge;
      asks =
          lost_asks (λ r. r.0.seat) (λ r. r.1) (λ r. r.2) _ c.args.turns c.args.seats.items c.in_ok-back.back.items ran
          g.row.M c.args.shared c.in_ok-record.record.trace c.in-Some.hart _ c.in_ok-record.ensures.record.opening
          (rw c.as_slice.ensures.value at c.in-Some.ensures)
          (subst (Merge (length c.args.shared.harts) c.in_ok-record.record.trace.entries) c.release_all.ensures
          c.in_ok-record.ensures.merge);
    })

pub returns-in-None-clause-missing : goal.returns-in-None-clause-missing
returns-in-None-clause-missing g c h first = absurd (none_is_first _ h _ c.in_ok-back.ensures.complete first)

pub returns-in-None-clause-record : goal.returns-in-None-clause-record
returns-in-None-clause-record g c = c.in_ok-record.ensures.record

pub returns-in-None-clause-merge : goal.returns-in-None-clause-merge
returns-in-None-clause-merge g c =
    let come = come_back (λ r. r.0.seat) (λ r. r.1) (λ r. r.2) _ _ _ _ _ c.in_ok-back.ensures.ran c.release_all.ensures in
    merged_from c.args.turns c.args.shared c.in_ok-record.record.trace.entries c.args.seats.items
    c.release_all.result.items c.in_ok-back.ensures.complete come c.in_ok-record.ensures.merge

pub returns-in-None-clause-gets_on : goal.returns-in-None-clause-gets_on
returns-in-None-clause-gets_on g c unheld opens =
    all_get_on (λ r. r.0.seat) (λ r. r.1) (λ r. r.2) _ c.args.turns c.args.seats.items c.in_ok-back.back.items
    c.in_ok-back.ensures.ran g.row.M c.args.shared c.in_ok-record.record.trace c.in_ok-record.ensures.record.opening
    unheld opens
    c.in_ok-back.ensures.found
    (rw c.as_slice.ensures.value at c.in-None.ensures)
    (subst (Merge (length c.args.shared.harts) c.in_ok-record.record.trace.entries) c.release_all.ensures c.in_ok-record.ensures.merge)
