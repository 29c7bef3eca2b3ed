-- A hart's act and a landing, by what the hart needs and what is pending: it does what it needs, or
-- waits at a store, an AMO or a full fence. So every event of a kept history has an outcome. The law of
-- each need is for the crates above, and for proofs about further programs.
use Rattle.std.proofs.Common.{inl, inr, ◌⊎◌, ◌≡◌, ◌≢◌, ℕ, ◌<◌, ◌≤◌, Bool, true, false, List, [], ◌∷◌, length, Option, Some, None, refl, sym, ◌∙◌, ap, subst}
use Rattle.std.proofs.Common.{arith}
use Rattle.std.specs.Prelude.{IsTrue}
use Rattle.std.proofs.lemmas.Bool.Decides.{nat_tests}
use Rattle.rv_decode.specs.declared.instruction.AmoOp.{AmoOp}
use Rattle.memory.specs.declared.writes.Write.{Write}
use Rattle.hart.specs.{HartState, need_of, updated}
use Rattle.hart.specs.declared.status.Status.{Status}
use Rattle.hart.specs.declared.status.Status.TheVariants as status
use Rattle.hart.specs.declared.status.Stop.{Stop}
use Rattle.hart.specs.declared.need.Need.{Need}
use Rattle.hart.specs.declared.need.Need.TheVariants as need
use Rattle.hart.specs.declared.need.Report.TheVariants as report
use Rattle.step_machine.specs.Names.{Event, Entry, Outcome, OpeningValue, History, at_opening, with_entry, hart_of, is_land, pending, read, Allowed, WellFormed}
use Rattle.step_machine.specs.Names.{CanFollow, Happens, RunFrom, Run, idle_of, idle_in, land_in, is_over}
use Rattle.step_machine.specs.declared.events.Event.TheVariants as event
use Rattle.step_machine.specs.declared.events.Entry.TheVariants as entry
use Rattle.step_machine.specs.declared.events.Outcome.TheVariants as outcome
use Rattle.step_machine.specs.Paths.{entry_of, number_read, CanMake, state_of}
use Rattle.step_machine.proofs.Follows.{act_only, follows}
use Rattle.step_machine.proofs.Running.{kept-happens, kept-at_opening}
use Rattle.step_machine.proofs.Happening.{history_after, none-no_hart, over_happens, state_of-hart, some_land}
use Rattle.step_machine.proofs.OwnRuns.{only_act}

-- the entry by which hart h does what it needs is its own, and holds what it read
pub own_entry : (h : ℕ) (n : Need) (v : ℕ) → (hart_of (entry_of h n v) ≡ h) × (is_land (entry_of h n v) ≡ false)
    × (entry_of h n v ≡ entry_of h n (number_read (entry_of h n v)))
own_entry h n v = grind arith

-- where this is pending of its hart, such a need has to wait: a store for room, an AMO and a full
-- fence for an empty buffer; no other need waits
abbrev pub HasToWait : ℕ → List Write → Need → Type 0
HasToWait B ws (need.Store a width v) = B ≤ length ws
HasToWait B ws (need.Amo a op rs2) = ws ≢ []
HasToWait B ws (need.Fence full) = IsTrue full × (ws ≢ [])
HasToWait B ws other = ⊥

-- a need that has to wait can't be done, whatever is read
pub waiting : (B : ℕ) (o : OpeningValue) (es : List Entry) (h : ℕ) (n : Need) → HasToWait B (pending h es) n → (v : ℕ) → Allowed B o es (entry_of h n v) → ⊥
waiting B o es h n full v few = grind arith

nil_or : (ws : List Write) → (ws ≡ []) ⊎ (ws ≢ [])
nil_or [] = inl refl
nil_or (w ∷ ws) = inr (λ e. cc)

-- a need can be done, with some number read, or has to wait
pub decide : (B : ℕ) (o : OpeningValue) (es : List Entry) (h : ℕ) (n : Need) → ((v : ℕ) × Allowed B o es (entry_of h n v)) ⊎ HasToWait B (pending h es) n
decide B o es h (need.Load a width) = inl (read o es h a width, refl)
decide B o es h (need.Store a width w) = grind (arith, nat_tests)
decide B o es h (need.Amo a op rs2) = grind (arith, nil_or (pending h es))
decide B o es h (need.Fence true) = grind (arith, nil_or (pending h es))
decide B o es h (need.Fence false) = inl (0, λ full. absurd cc)
decide B o es h (need.Report (report.Took i w)) = inl (0, tt)
decide B o es h (need.Report (report.Closed i)) = inl (0, tt)
decide B o es h other = inl (0, tt)

-- A running hart of a kept history. For each need: what it does, and when it waits.
module _ (B M : ℕ) (t : History) (h : ℕ) (s : HartState) (kept : WellFormed B M t) (is : state_of M t h ≡ Some s) (running : s.status ≡ status.Running) where
  pub does : (n : Need) (v : ℕ) → need_of s ≡ n → Allowed B t.opening t.entries (entry_of h n v)
      → Happens B M t (event.Act h) (outcome.Did (entry_of h n v)) (with_entry t (entry_of h n v))
  does n v needs allowed =
      let within : h < length t.opening.harts = state_of-hart M t h s is in
      let its : (hart_of (entry_of h n v) ≡ h) × (is_land (entry_of h n v) ≡ false)
      × (entry_of h n v ≡ entry_of h n (number_read (entry_of h n v))) =
      own_entry h n v in
      let made : entry_of h n v ≡ entry_of (hart_of (entry_of h n v)) (need_of s) (number_read (entry_of h n v)) =
      its.2 ∙ ap (λ k. entry_of k n (number_read (entry_of h n v))) (sym its.0)
      ∙ ap (λ m. entry_of (hart_of (entry_of h n v)) m (number_read (entry_of h n v))) (sym needs) in
      let can : CanMake s (entry_of h n v) = record { running = running; made = made } in
      let f : CanFollow B M t (entry_of h n v) = follows B M t h s (entry_of h n v) its.0 its.1 kept.legal (kept.paths h within) is can allowed in
      record {
        for_event = (its.0, its.1);
        follows = f;
        only = λ d for_d g. only_act B M t h (entry_of h n v) d within its.0 its.1 f for_d.0 for_d.1 g;
        after = refl;
      }

  pub waits : (n : Need) → need_of s ≡ n → HasToWait B (pending h t.entries) n → Happens B M t (event.Act h) outcome.Waited t
  waits n needs wait = record {
    none = λ d for_d f. (let one : CanMake s d × Allowed B t.opening t.entries d = act_only B M t h s d for_d.0 for_d.1 is f in
        waiting B t.opening t.entries h n wait (number_read d) (subst (Allowed B t.opening t.entries)
        (one.0.made ∙ ap (λ k. entry_of k (need_of s) (number_read d)) for_d.0
        ∙ ap (λ m. entry_of h m (number_read d)) needs) one.1));
    why = sym (ap (λ so. idle_of so outcome.Waited) is ∙ ap (λ st. idle_in st outcome.Waited) running);
    after = refl;
  }

  pub inner_happens : need_of s ≡ need.Inner → Happens B M t (event.Act h) (outcome.Did (entry.Inner h)) (with_entry t (entry.Inner h))
  inner_happens needs = does need.Inner 0 needs tt

  -- a load reads what the definition of reads says
  pub load_happens : (a width : ℕ) → need_of s ≡ need.Load a width
      → Happens B M t (event.Act h) (outcome.Did (entry.Load h a width (read t.opening t.entries h a width)))
      (with_entry t (entry.Load h a width (read t.opening t.entries h a width)))
  load_happens a width needs = does (need.Load a width) (read t.opening t.entries h a width) needs refl

  pub store_happens : (a width v : ℕ) → need_of s ≡ need.Store a width v → length (pending h t.entries) < B
      → Happens B M t (event.Act h) (outcome.Did (entry.Store h a width v)) (with_entry t (entry.Store h a width v))
  store_happens a width v needs room = does (need.Store a width v) 0 needs room

  pub store_waits : (a width v : ℕ) → need_of s ≡ need.Store a width v → B ≤ length (pending h t.entries) → Happens B M t (event.Act h) outcome.Waited t
  store_waits a width v needs full = waits (need.Store a width v) needs full

  pub amo_happens : (a : ℕ) (op : AmoOp) (rs2 : ℕ) → need_of s ≡ need.Amo a op rs2 → pending h t.entries ≡ []
      → Happens B M t (event.Act h)
      (outcome.Did (entry.Amo h a (read t.opening t.entries h a 4) (updated op (read t.opening t.entries h a 4) rs2)))
      (with_entry t (entry.Amo h a (read t.opening t.entries h a 4) (updated op (read t.opening t.entries h a 4) rs2)))
  amo_happens a op rs2 needs none = does (need.Amo a op rs2) (read t.opening t.entries h a 4) needs (none, refl)

  pub amo_waits : (a : ℕ) (op : AmoOp) (rs2 : ℕ) → need_of s ≡ need.Amo a op rs2 → pending h t.entries ≢ [] → Happens B M t (event.Act h) outcome.Waited t
  amo_waits a op rs2 needs some = waits (need.Amo a op rs2) needs some

  pub fence_happens : (full : Bool) → need_of s ≡ need.Fence full → (IsTrue full → pending h t.entries ≡ [])
      → Happens B M t (event.Act h) (outcome.Did (entry.Fence h full)) (with_entry t (entry.Fence h full))
  fence_happens full needs none = does (need.Fence full) 0 needs none

  pub fence_waits : need_of s ≡ need.Fence true → pending h t.entries ≢ [] → Happens B M t (event.Act h) outcome.Waited t
  fence_waits needs some = waits (need.Fence true) needs (refl, some)

  pub next_happens : (w : Option ℕ) → need_of s ≡ need.Next w → Happens B M t (event.Act h) (outcome.Did (entry.Next h w)) (with_entry t (entry.Next h w))
  next_happens w needs = does (need.Next w) 0 needs tt

  pub took_happens : (i w : ℕ) → need_of s ≡ need.Report (report.Took i w)
      → Happens B M t (event.Act h) (outcome.Did (entry.Took h i w)) (with_entry t (entry.Took h i w))
  took_happens i w needs = does (need.Report (report.Took i w)) 0 needs tt

  pub closed_happens : (i : ℕ) → need_of s ≡ need.Report (report.Closed i)
      → Happens B M t (event.Act h) (outcome.Did (entry.Closed h i)) (with_entry t (entry.Closed h i))
  closed_happens i needs = does (need.Report (report.Closed i)) 0 needs tt

  pub exit_happens : need_of s ≡ need.Exit → Happens B M t (event.Act h) (outcome.Did (entry.Ended h)) (with_entry t (entry.Ended h))
  exit_happens needs = does need.Exit 0 needs tt

  pub stop_happens : (why : Stop) → need_of s ≡ need.Stop why
      → Happens B M t (event.Act h) (outcome.Did (entry.Stopped h why)) (with_entry t (entry.Stopped h why))
  stop_happens why needs = does (need.Stop why) 0 needs tt

  -- who waits needs a store, an AMO or a full fence, and finds its buffer full, or not empty
  pub who_waits : (new : History) → Happens B M t (event.Act h) outcome.Waited new → HasToWait B (pending h t.entries) (need_of s)
  who_waits new idles = at (decide B t.opening t.entries h (need_of s))
    where
      at : ((v : ℕ) × Allowed B t.opening t.entries (entry_of h (need_of s) v))
          ⊎ HasToWait B (pending h t.entries) (need_of s) → HasToWait B (pending h t.entries) (need_of s)
      at (inl can) = absurd (idles.none (entry_of h (need_of s) can.0) (does (need_of s) can.0 refl can.1).for_event
          (does (need_of s) can.0 refl can.1).follows)
      at (inr wait) = wait

-- a landing writes the hart's oldest pending store
pub land_happens : (B M : ℕ) (t : History) (h : ℕ) (s : HartState) (w : Write) (ws : List Write) → WellFormed B M t
    → state_of M t h ≡ Some s → pending h t.entries ≡ w ∷ ws
    → Happens B M t (event.Land h) (outcome.Did (entry.Land h)) (with_entry t (entry.Land h))
land_happens B M t h s w ws kept is some = some_land B M t h s (w ∷ ws) kept is (sym some)

-- some outcome of an event

abbrev pub Happening : ℕ → ℕ → History → Event → Type 0
Happening B M t ev = (o : Outcome) × (new : History) × Happens B M t ev o new

acts : (B M : ℕ) (t : History) (h : ℕ) (s : HartState) (st : Status) → WellFormed B M t → state_of M t h ≡ Some s
    → s.status ≡ st → Happening B M t (event.Act h)
acts B M t h s status.Running kept is run =
    elim (decide B t.opening t.entries h (need_of s)) [
      | inl can ↦ (
        outcome.Did (entry_of h (need_of s) can.0),
        with_entry t (entry_of h (need_of s) can.0),
        does B M t h s kept is run (need_of s) can.0 refl can.1,
      )
      | inr wait ↦ (outcome.Waited, t, waits B M t h s kept is run (need_of s) refl wait)
    ]
acts B M t h s x kept is run = (outcome.Over, t, over_happens B M t h s is (λ r. cc) (ap (λ x. idle_in x outcome.Waited) run))

-- the state of a hart, if it is one
pub state_or : (M : ℕ) (t : History) (h : ℕ) → ((s : HartState) × (state_of M t h ≡ Some s)) ⊎ (state_of M t h ≡ None)
state_or M t h = grind arith

lands : (B M : ℕ) (t : History) (h : ℕ) (s : HartState) (ps : List Write) → WellFormed B M t
    → state_of M t h ≡ Some s → ps ≡ pending h t.entries → Happening B M t (event.Land h)
lands B M t h s ps kept is same = (land_in ps h (is_over s.status), history_after t (land_in ps h (is_over s.status)), some_land B M t h s ps kept is same)

pub happens_some : (B M : ℕ) (t : History) (ev : Event) → WellFormed B M t → Happening B M t ev
happens_some B M t (event.Act h) kept =
    elim (state_or M t h) [
      | inl there ↦ acts B M t h there.0 there.0.status kept there.1 refl
      | inr none ↦ (
        outcome.NoHart,
        t,
        record {
          none = λ d for_d f. none-no_hart B M t h d none for_d.0 f;
          why = sym (ap (λ so. idle_of so outcome.Waited) none);
          after = refl;
        },
      )
    ]
happens_some B M t (event.Land h) kept =
    elim (state_or M t h) [
      | inl there ↦ lands B M t h there.0 (pending h t.entries) kept there.1 refl
      | inr none ↦ (
        outcome.NoHart,
        t,
        record {
          none = λ d for_d f. none-no_hart B M t h d none (ap hart_of for_d) f;
          why = sym (ap (λ so. idle_of so outcome.NothingToLand) none);
          after = refl;
        },
      )
    ]

pub run_from_some : (B M : ℕ) (t : History) (evs : List Event) → WellFormed B M t → (new : History) × RunFrom B M t evs new
run_from_some B M t [] kept = (t, refl)
run_from_some B M t (ev ∷ evs) kept =
    let one : Happening B M t ev = happens_some B M t ev kept in
    let rest : (new : History) × RunFrom B M one.1 evs new = run_from_some B M one.1 evs (kept-happens B M t ev one.0 one.1 kept one.2) in
    (rest.0, (one.0, one.1, one.2, rest.1))

-- every list of events makes something of an opening
pub run_some : (B M : ℕ) (o : OpeningValue) (evs : List Event) → (t : History) × Run B M o evs t
run_some B M o evs = run_from_some B M (at_opening o) evs (kept-at_opening B M o)
