-- Where none of a run's events can go without its violation, or its loss, the last one adds it.
use Rattle.std.proofs.Common.{ℕ, suc, ◌+◌, ◌<◌, ◌≡◌, ◌⊎◌, Bool, true, false, List, [], ◌∷◌, ◌++◌, length, drop, Some, None, Ok, Err, inl, inr, refl, sym, ap}
use Rattle.std.proofs.Common.{◌∙◌, subst, arith}
use Rattle.std.specs.Prelude.{Option, if◌then◌else◌}
use Rattle.std.proofs.lemmas.Bool.Decides.{Decides-ltb}
use Rattle.std.proofs.lemmas.List.{length-append}
use Rattle.std.proofs.Math.Seq.{take-append_seam}
use Rattle.step_machine.specs.declared.events.Event.{Event}
use Rattle.step_machine.specs.declared.events.Entry.{Entry}
use Rattle.step_machine.specs.declared.events.Outcome.TheVariants as outcome
use Rattle.step_machine.specs.Names.{OpeningValue, History, at_opening, hart_of, with_entry, Adds, Idles, Run}
use Rattle.step_machine.proofs.Running.{shape_of, hart_follows, opening_kept}
use Rattle.queue_parties.specs.Parties.{QueueCounts}
use Rattle.queue_layouts.specs.declared.AnyQueue.{AnyQueue}
use Rattle.shrink.specs.Shrinking.{without}
use Rattle.drawn_runs.proofs.Bursts.{LastHappens, last_happens}
use Rattle.judged_runs.specs.Telling.{IsFlawTold}
use Rattle.ownership_runs.specs.{Violation, RunNotes, entry_counts, run_counts, keeps_entry, violation_at, first_ownership_violation, HasKeptRun, HasBrokenRun}
use Rattle.ownership_runs.specs.{IsOfOneKind, EndsInViolation, nothing_noted, noted_as, noted_more, noted_all, HasSlot, Loss, first_loss, sent_from}
use Rattle.ownership_runs.specs.{nothing_sent, or_else, IsLossAt, LosesNothing, HasLoss, IsLossOfOneKind, EndsInLoss, judged_loss, loss_after, loss_since}
use Rattle.ownership_runs.proofs.Losing.{counted-loss, is-first-loss, is-loss, loss-append}
use Rattle.ownership_runs.proofs.Noting.{noted-append, first-noted, all-noted, nothing-more}

-- ---- a list and its last event

record HasLast (events : List Event) : Type 0 where
  front : List Event
  last : Event
  is : events ≡ front ++ last ∷ []

none-or-last : (events : List Event) → (events ≡ []) ⊎ HasLast events
none-or-last [] = inl refl
none-or-last (ev ∷ events) = by (none-or-last events)
  where
    by : (events ≡ []) ⊎ HasLast events → (ev ∷ events ≡ []) ⊎ HasLast (ev ∷ events)
    by (inl none) = inr (record { front = []; last = ev; is = ap (λ xs. ev ∷ xs) none })
    by (inr more) = inr (record { front = ev ∷ more.front; last = more.last; is = ap (λ xs. ev ∷ xs) more.is })

without-last : (front : List Event) (last : Event) → without (length front) 1 (front ++ last ∷ []) ≡ front
without-last front last = ap (λ xs. xs ++ drop (length front + 1) (front ++ last ∷ [])) (take-append_seam front (last ∷ []))
    ∙ ap (λ xs. front ++ xs) rest ∙ append-none front
  where
    append-none : (xs : List Event) → xs ++ [] ≡ xs
    append-none [] = refl
    append-none (x ∷ xs) = ap (λ ys. x ∷ ys) (append-none xs)

    rest : drop (length front + 1) (front ++ last ∷ []) ≡ []
    rest = by front
      where
        by : (xs : List Event) → drop (length xs + 1) (xs ++ last ∷ []) ≡ []
        by [] = refl
        by (x ∷ xs) =
            let next : length (x ∷ xs) + 1 ≡ suc (length xs + 1) = omega arith in
            ap (λ (n : ℕ). drop n (x ∷ xs ++ last ∷ [])) next ∙ by xs

-- ---- the violation of the last entry

module _ (q : AnyQueue) (start : QueueCounts) (es : List Entry) (e : Entry) (b : Violation)
    (found : first_ownership_violation q start (es ++ e ∷ []) ≡ Some b) where
  -- it is that of the entries before, or the last entry
  abbrev IsLast : Type 0
  IsLast = b ≡ violation_at q (length es) (run_counts q start es) e

  before-or-last : (first_ownership_violation q start es ≡ Some b) ⊎ IsLast
  before-or-last = by (first_ownership_violation q start es) refl
    where
      notes : RunNotes
      notes = noted_all q (nothing_noted start) es

      more : (noted_more q notes e).found ≡ Some b
      more = ap (λ (n : RunNotes). n.found) (sym (noted-append q (nothing_noted start) es (e ∷ []))) ∙ first-noted q start (es ++ e ∷ []) ∙ found

      at : (ok : Bool) → (noted_as (record { found = None; counts = run_counts q start es; place = length es })
          (if ok then Ok (entry_counts q (run_counts q start es) e) else Err (violation_at q (length es) (run_counts q start es) e))).found ≡ Some b → IsLast
      at true none = cc
      at false is = cc

      by : (x : Option Violation) → first_ownership_violation q start es ≡ x → (first_ownership_violation q start es ≡ Some b) ⊎ IsLast
      by None none = inr (at (keeps_entry q (run_counts q start es) e)
          (ap (λ (n : RunNotes). (noted_more q n e).found) (sym (all-noted q start es none)) ∙ more))
      by (Some a) some = inl (sym (first-noted q start es)
          ∙ ap (λ (n : RunNotes). n.found) (sym (nothing-more q notes a e (first-noted q start es ∙ some))) ∙ more)

-- ---- the loss of the last entry

module _ (q : AnyQueue) (some : HasSlot q) (o : OpeningValue) (start : QueueCounts) (es : List Entry) (e : Entry) (l : Loss) where
  before-or-lost : (since : Option ℕ) → first_loss since q o start (es ++ e ∷ []) ≡ Some l
      → (first_loss since q o start es ≡ Some l) ⊎ IsLossAt q o start es e l
  before-or-lost since found = by (first_loss since q o start es) refl (sym (loss-append since q o [] start nothing_sent es (e ∷ [])) ∙ found)
    where
      here : Option Loss
      here = loss_since since q (length es) (run_counts q start es) (sent_from q o [] start nothing_sent es) e

      at : (x : Option Loss) → here ≡ x → or_else x None ≡ Some l → IsLossAt q o start es e l
      at None none is = cc
      at (Some m) same is = is-loss q some o start es e l (counted-loss since (length es) _ l (same ∙ is)).1

      by : (before : Option Loss) → first_loss since q o start es ≡ before → or_else before (or_else here None) ≡ Some l
          → (first_loss since q o start es ≡ Some l) ⊎ IsLossAt q o start es e l
      by None none is = inr (at here refl is)
      by (Some m) same is = inl (same ∙ is)

  -- nothing comes after the last entry
  none-after : (b : Violation) → b.place ≡ length es → first_loss (Some b.place) q o start (es ++ e ∷ []) ≡ Some l → ⊥
  none-after b at found =
      let first = is-first-loss q some o start (Some b.place) (es ++ e ∷ []) l found in
      let less : b.place < l.place = (Decides-ltb b.place l.place).0 first.after in
      let here : l.place ≡ length first.front = first.loss_at.place in
      let all : length (es ++ e ∷ []) ≡ length first.front + length (first.entry ∷ first.back) =
      ap (λ (xs : List Entry). length xs) first.is ∙ length-append first.front (first.entry ∷ first.back) in
      let more : length (es ++ e ∷ []) ≡ length es + 1 = length-append es (e ∷ []) in
      absurd (omega (arith, less, here, all, more, at))

  before-or-judged : (broken : Bool) → judged_loss broken q o start (es ++ e ∷ []) ≡ Some l
      → (judged_loss broken q o start es ≡ Some l) ⊎ IsLossAt q o start es e l
  before-or-judged false found = before-or-lost None found
  before-or-judged true found = by (first_ownership_violation q start (es ++ e ∷ [])) refl found
    where
      by : (x : Option Violation) → first_ownership_violation q start (es ++ e ∷ []) ≡ x → loss_after q o start (es ++ e ∷ []) x ≡ Some l
          → (judged_loss true q o start es ≡ Some l) ⊎ IsLossAt q o start es e l
      by None none lost = cc
      by (Some b) some lost = at b.described refl lost
        where
          at : (described : Bool) → b.described ≡ described → (if described then first_loss (Some b.place) q o start (es ++ e ∷ []) else None) ≡ Some l
              → (judged_loss true q o start es ≡ Some l) ⊎ IsLossAt q o start es e l
          at false off none = cc
          at true on first = of (before-or-last q start es e b some) (before-or-lost (Some b.place) first)
            where
              of : (first_ownership_violation q start es ≡ Some b) ⊎ IsLast q start es e b some
                  → (first_loss (Some b.place) q o start es ≡ Some l) ⊎ IsLossAt q o start es e l
                  → (judged_loss true q o start es ≡ Some l) ⊎ IsLossAt q o start es e l
              of broken (inr here) = inr here
              of (inr last) later = absurd (none-after b (ap (λ (v : Violation). v.place) last) first)
              of (inl before) (inl lost) = inl (ap (loss_after q o start es) before
                  ∙ ap (λ r. if r then first_loss (Some b.place) q o start es else None) on ∙ lost)

-- ---- what the entries of a run are found to have first, which none of its events can go without

module _ {X : Type 0} (B M : ℕ) (o : OpeningValue) (found : List Entry → Option X) (IsMade : List Entry → Entry → X → Type 0)
    (nothing : (x : X) → found [] ≡ Some x → ⊥)
    (either : (es : List Entry) (e : Entry) (x : X) → found (es ++ e ∷ []) ≡ Some x → (found es ≡ Some x) ⊎ IsMade es e x) where
  record HasFirst (events : List Event) (x : X) : Type 0 where
    history : History
    run : Run B M o events history
    first : found history.entries ≡ Some x

  -- the last event adds an entry that makes it
  record EndsIn (part : List Event) (x : X) : Type 0 where
    front : List Event
    last : Event
    before : History
    entry : Entry
    events_are : part ≡ front ++ last ∷ []
    run : Run B M o front before
    adds : Adds B M before last entry (with_entry before entry)
    first : found (before.entries ++ entry ∷ []) ≡ Some x
    made : IsMade before.entries entry x
    of_hart : hart_of entry < length o.harts

  module _ (part : List Event) (x : X) (has : HasFirst part x) (short : (i : ℕ) → i < length part → HasFirst (without i 1 part) x → ⊥) where
    of-none : part ≡ [] → EndsIn part x
    of-none none =
        let run : Run B M o [] has.history = subst (λ xs. Run B M o xs has.history) none has.run in
        absurd (nothing x (ap (λ (t : History). found t.entries) (sym run) ∙ has.first))

    module _ (l : HasLast part) where
      split : LastHappens B M (at_opening o) l.front l.last has.history
      split = last_happens B M (at_opening o) l.front l.last has.history (subst (λ xs. Run B M o xs has.history) l.is has.run)

      -- the events before the last one have no such run
      not-before : found split.before.entries ≡ Some x → ⊥
      not-before first =
          let within : length l.front < length (l.front ++ l.last ∷ []) = omega (arith, length-append l.front (l.last ∷ [])) in
          short (length l.front) (subst (λ xs. length l.front < length xs) (sym l.is) within)
          (subst (λ xs. HasFirst xs x) (sym (ap (without (length l.front) 1) l.is ∙ without-last l.front l.last))
          (record { history = split.before; run = split.ran; first = first }))

      of-added : (e : Entry) → Adds B M split.before l.last e has.history → EndsIn part x
      of-added e adds =
          let first : found (split.before.entries ++ e ∷ []) ≡ Some x = ap (λ (t : History). found t.entries) (sym adds.after) ∙ has.first in
          at first (either split.before.entries e x first)
        where
          at : found (split.before.entries ++ e ∷ []) ≡ Some x → (found split.before.entries ≡ Some x) ⊎ IsMade split.before.entries e x → EndsIn part x
          at first (inl before) = absurd (not-before before)
          at first (inr made) = record {
            front = l.front;
            last = l.last;
            before = split.before;
            entry = e;
            events_are = l.is;
            run = split.ran;
            adds = subst (λ (t : History). Adds B M split.before l.last e t) adds.after adds;
            first = first;
            made = made;
            of_hart =
                let opening : split.before.opening ≡ o = opening_kept B M o l.front split.before split.ran in
                subst (λ (x : OpeningValue). hart_of e < length x.harts) opening (hart_follows B M split.before e adds.follows);
          }

      of-last : EndsIn part x
      of-last = at (shape_of B M split.before l.last split.outcome has.history split.happens)
        where
          at : ((e : Entry) × (split.outcome ≡ outcome.Did e) × Adds B M split.before l.last e has.history)
              ⊎ Idles B M split.before l.last split.outcome has.history → EndsIn part x
          at (inl added) = of-added added.0 added.2
          at (inr idles) = absurd (not-before (ap (λ (t : History). found t.entries) (sym idles.after) ∙ has.first))

    ends-in : EndsIn part x
    ends-in = at (none-or-last part)
      where
        at : (part ≡ []) ⊎ HasLast part → EndsIn part x
        at (inl none) = of-none none
        at (inr l) = of-last l

module _ (B M : ℕ) (o : OpeningValue) (q : AnyQueue) (start : QueueCounts) (schedule : ℕ → List Event) (runs : ℕ) (part : List Event) where
  nothing-lost : (broken : Bool) (l : Loss) → judged_loss broken q o start [] ≡ Some l → ⊥
  nothing-lost true l is = absurd (cc)
  nothing-lost false l is = absurd (cc)

  pub ends-told : (b : Violation) → IsFlawTold (HasKeptRun B M o q start) (HasBrokenRun B M o q start) IsOfOneKind schedule runs part b
      → EndsInViolation B M o q start part b
  ends-told b told =
      let has = told.shown.has in
      let e = ends-in B M o (first_ownership_violation q start) (λ es e b. b ≡ violation_at q (length es) (run_counts q start es) e) (λ b is. absurd (cc))
      (before-or-last q start) part b (record { history = has.history; run = has.run; first = has.first }) (λ i less has. told.shown.minimal i less
      (record { other = b; has = record { history = has.history; run = has.run; first = has.first }; alike = told.shown.alike })) in
      record {
        front = e.front;
        last = e.last;
        before = e.before;
        entry = e.entry;
        events_are = e.events_are;
        run = e.run;
        adds = e.adds;
        first = e.first;
        place = ap (λ (x : Violation). x.place) e.made;
        of_hart = subst (λ (h : ℕ). h < length o.harts) (sym (ap (λ (x : Violation). x.hart) e.made)) e.of_hart;
      }

  pub loss-told : (broken : Bool) (l : Loss) → HasSlot q
      → IsFlawTold (LosesNothing B M o q start broken) (HasLoss B M o q start broken) IsLossOfOneKind schedule runs part l
      → EndsInLoss B M o q start broken part l
  loss-told broken l some told =
      let has = told.shown.has in
      let e = ends-in B M o (judged_loss broken q o start) (IsLossAt q o start) (λ l is. absurd (nothing-lost broken l is))
      (λ es e l found. before-or-judged q some o start es e l broken found) part l
      (record { history = has.history; run = has.run; first = has.first }) (λ i less has. told.shown.minimal i less
      (record { other = l; has = record { history = has.history; run = has.run; first = has.first }; alike = told.shown.alike })) in
      record {
        front = e.front;
        last = e.last;
        before = e.before;
        entry = e.entry;
        events_are = e.events_are;
        run = e.run;
        adds = e.adds;
        first = e.first;
        is_loss = e.made;
        of_hart = subst (λ (h : ℕ). h < length o.harts) e.made.hart e.of_hart;
      }
