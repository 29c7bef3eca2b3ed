-- A session's snapshots: each was taken where the run of the first events ended, and the session's own
-- history began so.
use Rattle.std.proofs.Common.{◌≡◌, ℕ, zero, suc, ◌+◌, ◌-◌, ◌*◌, ◌/◌, ◌%◌, ◌<◌, ◌≤◌, ◌⊎◌, inl, inr, List, [], ◌∷◌, ◌++◌, length, take, drop, get_or, Some, refl}
use Rattle.std.proofs.Common.{sym, ◌∙◌, ap, subst, arith, append-nil, append_assoc, length-append, length-drop, length-take-le, take-append-drop, take_all}
use Rattle.std.proofs.Common.{take-take}
use Rattle.std.specs.List.{slice_get}
use Rattle.std.proofs.Math.Seq.{take-append_seam}
use Rattle.std.proofs.lemmas.Bool.{cases_lt}
use Rattle.std.proofs.lemmas.List.{take-append-le, get_or_append_left, get_or_push, get_or-take}
use Rattle.std.proofs.lemmas.Option.{slice_get_within, get_or_from_slice_get}
use Rattle.step_machine.specs.declared.events.Entry.{Entry}
use Rattle.step_machine.specs.declared.events.Event.{Event}
use Rattle.step_machine.specs.declared.events.Outcome.{Outcome}
use Rattle.step_machine.specs.Names.{OpeningValue, History, history_of, up_to, at_opening, Happens, RunFrom, Run, SnapshotView, IsTakenAt}
use Rattle.step_machine.proofs.Running.{shape_of, run-one, RunFrom-append, RunFrom-more}
use Rattle.debugger.specs.{Past, GoesBack, snapshot_before, IsNearest, IsTakenAfter, HasSnapshots, SNAPSHOT_EVENTS}

-- ---- a run only adds at the end

-- the history goes on from the one before
abbrev GoesOnFrom : History → History → Type 0
GoesOnFrom t new = (es : List Entry) × (new ≡ history_of t.opening (t.entries ++ es))

goes_on-happens : (B M : ℕ) (t : History) (ev : Event) (o : Outcome) (new : History) → Happens B M t ev o new → GoesOnFrom t new
goes_on-happens B M t ev o new h = grind (arith, shape_of, append-nil)

goes_on-run : (B M : ℕ) (t : History) (evs : List Event) (new : History) → RunFrom B M t evs new → GoesOnFrom t new
goes_on-run B M t [] new run = ([], run ∙ ap (history_of t.opening) (sym (append-nil t.entries)))
goes_on-run B M t (ev ∷ evs) new run = grind (arith, goes_on-happens, append_assoc, goes_on-run B M run.1 evs new run.3)

-- a run's events, cut in two
run_cut : (B M : ℕ) (t : History) (evs more : List Event) (new : History) → RunFrom B M t (evs ++ more) new
    → (mid : History) × RunFrom B M t evs mid × RunFrom B M mid more new
run_cut B M t [] more new run = (t, refl, run)
run_cut B M t (ev ∷ evs) more new run = grind (arith, run_cut B M run.1 evs more new run.3)

-- what the first events make is the front of what all of them make
run_front : (B M : ℕ) (t : History) (evs more : List Event) (new mid : History) → RunFrom B M t (evs ++ more) new
    → RunFrom B M t evs mid → up_to (length mid.entries) new ≡ mid
run_front B M t evs more new mid run first = grind (arith, run_cut, run-one, goes_on-run, take-append_seam)

-- ---- the snapshots

-- an event more leaves those that were taken
still_taken : (B M : ℕ) (o : OpeningValue) (evs : List Event) (ev : Event) (ss : List SnapshotView) (k : ℕ) (d : SnapshotView)
    → HasSnapshots B M o evs ss → k < length ss
    → IsTakenAfter B M o (take (k * SNAPSHOT_EVENTS) (evs ++ ev ∷ [])) (get_or ss k d)
still_taken B M o evs ev ss k d has within =
    let before : k * SNAPSHOT_EVENTS ≤ length evs = omega (arith, has.count, within) in
    subst (λ (es : List Event). IsTakenAfter B M o es (get_or ss k d)) (sym (take-append-le (k * SNAPSHOT_EVENTS) evs (ev ∷ []) before)) (has.taken k d within)

-- an event more, after which none is taken
pub none_taken : (B M : ℕ) (o : OpeningValue) (evs : List Event) (ev : Event) (ss : List SnapshotView) → HasSnapshots B M o evs ss
    → ((length evs + 1) % SNAPSHOT_EVENTS ≡ 0 → ⊥)
    → HasSnapshots B M o (evs ++ ev ∷ []) ss
none_taken B M o evs ev ss has between = grind (arith, length-append, still_taken)

-- an event more, after which one is taken
pub one_taken : (B M : ℕ) (o : OpeningValue) (evs : List Event) (ev : Event) (ss : List SnapshotView) (t : History) (s : SnapshotView)
    → HasSnapshots B M o evs ss → (length evs + 1) % SNAPSHOT_EVENTS ≡ 0
    → Run B M o (evs ++ ev ∷ []) t → IsTakenAt B M t s → HasSnapshots B M o (evs ++ ev ∷ []) (ss ++ s ∷ [])
one_taken B M o evs ev ss t s has due ran taken =
    let longer : length (evs ++ ev ∷ []) ≡ length evs + 1 = length-append evs (ev ∷ []) in
    let one_more : length (ss ++ s ∷ []) ≡ length ss + 1 = length-append ss (s ∷ []) in
    record { count = omega (arith, has.count, longer, one_more, due); taken = λ k d within. at k d longer one_more within (cases_lt k (length ss)) }
  where
    at : (k : ℕ) (d : SnapshotView) → length (evs ++ ev ∷ []) ≡ length evs + 1 → length (ss ++ s ∷ []) ≡ length ss + 1
        → k < length (ss ++ s ∷ []) → (k < length ss) ⊎ (length ss ≤ k)
        → IsTakenAfter B M o (take (k * SNAPSHOT_EVENTS) (evs ++ ev ∷ [])) (get_or (ss ++ s ∷ []) k d)
    at k d longer one_more within (inl old) = rw (get_or_append_left ss (s ∷ []) d k old) (still_taken B M o evs ev ss k d has old)
    at k d longer one_more within (inr new) =
        let last : length ss ≡ k = omega (arith, one_more, within, new) in
        let all : length (evs ++ ev ∷ []) ≤ k * SNAPSHOT_EVENTS = omega (arith, has.count, longer, last, due) in
        rw (get_or_push ss s d k last) (rw (take_all (k * SNAPSHOT_EVENTS) (evs ++ ev ∷ []) all) (t, ran, taken))

-- fewer events, with the snapshots that were taken by then
cut_to : (B M : ℕ) (o : OpeningValue) (evs : List Event) (ss : List SnapshotView) (n : ℕ) → HasSnapshots B M o evs ss → n ≤ length evs
    → HasSnapshots B M o (take n evs) (take (n / SNAPSHOT_EVENTS + 1) ss)
cut_to B M o evs ss n has within =
    let few : length (take n evs) ≡ n = length-take-le n evs within in
    let held : length (take (n / SNAPSHOT_EVENTS + 1) ss) ≡ n / SNAPSHOT_EVENTS + 1 =
    length-take-le (n / SNAPSHOT_EVENTS + 1) ss (omega (arith, has.count, within)) in
    record { count = held ∙ ap (λ (m : ℕ). m / SNAPSHOT_EVENTS + 1) (sym few); taken = λ k d below. at k d (omega (arith, held, below)) }
  where
    at : (k : ℕ) (d : SnapshotView) → k < n / SNAPSHOT_EVENTS + 1
        → IsTakenAfter B M o (take (k * SNAPSHOT_EVENTS) (take n evs)) (get_or (take (n / SNAPSHOT_EVENTS + 1) ss) k d)
    at k d below =
        rw (get_or-take (n / SNAPSHOT_EVENTS + 1) ss k d below)
        (rw (take-take (k * SNAPSHOT_EVENTS) n evs (omega (arith, below))) (has.taken k d (omega (arith, has.count, within, below))))

-- ---- the nearest one

-- what was taken after the first events is of the front of what all of them make
pub nearest_of : (B M : ℕ) (p : Past) (ss : List SnapshotView) (place : ℕ) (evs rest : List Event) (s : SnapshotView) → Run B M p.opening p.events p.history
    → HasSnapshots B M p.opening p.events ss → place ≤ length p.events → evs ≡ take place p.events → slice_get ss (length evs / SNAPSHOT_EVENTS) ≡ Some s
    → rest ≡ drop (snapshot_before (length evs)) evs → IsNearest B M p place s rest
nearest_of B M p ss place evs rest s ran has within cut is since =
    let count : length evs ≡ place = ap length cut ∙ length-take-le place p.events within in
    let k : ℕ = place / SNAPSHOT_EVENTS in
    let first : List Event = take (snapshot_before place) p.events in
    let others : List Event = drop (snapshot_before place) p.events in
    let here : slice_get ss k ≡ Some s = ap (λ (n : ℕ). slice_get ss (n / SNAPSHOT_EVENTS)) (sym count) ∙ is in
    let after : IsTakenAfter B M p.opening first s =
    subst (IsTakenAfter B M p.opening first) (get_or_from_slice_get ss k s s here) (has.taken k s (slice_get_within ss k s here)) in
    let whole : Run B M p.opening (first ++ others) p.history =
    subst (λ (es : List Event). Run B M p.opening es p.history) (sym (take-append-drop (snapshot_before place) p.events)) ran in
    let front : up_to s.count p.history ≡ after.0 =
    ap (λ (n : ℕ). up_to n p.history) after.2.count ∙ run_front B M _ first others p.history after.0 whole after.1 in
    let left : length (drop (snapshot_before (length evs)) evs) ≡ length evs - snapshot_before (length evs) = length-drop (snapshot_before (length evs)) evs in
    record {
      ran = subst (λ (t : History). Run B M p.opening first t) (sym front) after.1;
      taken = subst (λ (t : History). IsTakenAt B M t s) (sym front) after.2;
      events = since ∙ ap (λ (n : ℕ). drop (snapshot_before n) evs) count ∙ ap (drop (snapshot_before place)) cut;
      few = omega (arith, ap length since, left);
    }

-- one of those that are left
get_front : (m : ℕ) (ss : List SnapshotView) (k : ℕ) (s : SnapshotView) → slice_get (take m ss) k ≡ Some s → slice_get ss k ≡ Some s
get_front (suc m) (x ∷ ss) zero s is = is
get_front (suc m) (x ∷ ss) (suc k) s is = get_front m ss k s is
get_front x y k s is = cc

-- the events since the nearest snapshot, run from there, make what all up to the place make
run_from_nearest : (B M : ℕ) (p : Past) (place : ℕ) (s : SnapshotView) (rest : List Event) (new : History) → IsNearest B M p place s rest
    → RunFrom B M (up_to s.count p.history) rest new → Run B M p.opening (take place p.events) new
run_from_nearest B M p place s rest new near run =
    let n : ℕ = snapshot_before place in
    let front : take n p.events ≡ take n (take place p.events) = sym (take-take n place p.events (omega arith)) in
    let whole : take n p.events ++ rest ≡ take place p.events =
    ap (λ (es : List Event). es ++ rest) front ∙ ap (λ (es : List Event). take n (take place p.events) ++ es) near.events
    ∙ take-append-drop n (take place p.events) in
    subst (λ (es : List Event). Run B M p.opening es new) whole (RunFrom-append B M _ (take n p.events) (up_to s.count p.history) rest new near.ran run)

-- ---- a session that goes back

-- of what it was given, the first n events stay
module _ (B M : ℕ) (t : History) (evs : List Event) (ss : List SnapshotView) (k n : ℕ) (count : n ≡ length evs - k) (ran : Run B M t.opening evs t)
    (has : HasSnapshots B M t.opening evs ss) where
  abbrev past : Past
  past = record { opening = t.opening; events = evs; history = t }

  -- the latest of the snapshots that stay is the nearest one
  pub nearest_left : (m : ℕ) (left rest : List Event) (s : SnapshotView) → left ≡ take n evs → slice_get (take m ss) (length left / SNAPSHOT_EVENTS) ≡ Some s
      → rest ≡ drop (snapshot_before (length left)) left → IsNearest B M past n s rest
  nearest_left m left rest s is at since = nearest_of B M past ss n left rest s ran has (omega arith) is (get_front m ss _ s at) since

  -- a machine that was put back to it, and run from there
  pub went_back : (s : SnapshotView) (rest : List Event) (from new : History) → IsNearest B M past n s rest → from ≡ up_to s.count t
      → RunFrom B M from rest new → new.opening ≡ from.opening
      → GoesBack B M past k (record { opening = new.opening; events = take n evs; history = new })
      × Run B M new.opening (take n evs) new × HasSnapshots B M new.opening (take n evs) (take (n / SNAPSHOT_EVENTS + 1) ss)
  went_back s rest from new near same run kept =
      let again : Run B M t.opening (take n evs) new = run_from_nearest B M past n s rest new near (subst (λ (u : History). RunFrom B M u rest new) same run) in
      let opening : new.opening ≡ t.opening = kept ∙ ap (λ (u : History). u.opening) same in
      let held : HasSnapshots B M t.opening (take n evs) (take (n / SNAPSHOT_EVENTS + 1) ss) = cut_to B M t.opening evs ss n has (omega arith) in (
        record { opening = opening; events = ap (λ (m : ℕ). take m evs) count; ran = subst (λ (m : ℕ). Run B M t.opening (take m evs) new) count again },
        subst (λ (o : OpeningValue). Run B M o (take n evs) new) (sym opening) again,
        subst (λ (o : OpeningValue). HasSnapshots B M o (take n evs) (take (n / SNAPSHOT_EVENTS + 1) ss)) (sym opening) held,
      )

-- ---- what a session's history and snapshots are after one event more

-- the run of all events, and the snapshots that are held for it
pub went_on : (B M : ℕ) (t : History) (evs : List Event) (ev : Event) (o : Outcome) (new : History) (ss : List SnapshotView)
    → Run B M t.opening evs t → Happens B M t ev o new → new.opening ≡ t.opening
    → (Run B M t.opening (evs ++ ev ∷ []) new → HasSnapshots B M t.opening (evs ++ ev ∷ []) ss)
    → Run B M new.opening (evs ++ ev ∷ []) new × HasSnapshots B M new.opening (evs ++ ev ∷ []) ss
went_on B M t evs ev o new ss ran happens kept held =
    let on = RunFrom-more B M (at_opening t.opening) evs t ev o new ran happens in
    subst (λ (opening : OpeningValue). Run B M opening (evs ++ ev ∷ []) new × HasSnapshots B M opening (evs ++ ev ∷ []) ss) (sym kept) (on, held on)
