-- What is noted of a run: its first violation, and while there is none the counts.
use Rattle.std.proofs.Common.{ℕ, ◌+◌, ◌<◌, ◌≡◌, Bool, true, false, List, [], ◌∷◌, ◌++◌, length, take, get_or, Some, None, Ok, Err, refl, sym, ap, ◌∙◌, arith}
use Rattle.std.specs.Prelude.{if◌then◌else◌}
use Rattle.std.proofs.lemmas.List.{take_more}
use Rattle.step_machine.specs.declared.events.Entry.{Entry}
use Rattle.step_machine.specs.declared.events.Event.{Event}
use Rattle.step_machine.specs.declared.events.Outcome.{Outcome}
use Rattle.step_machine.specs.declared.events.Outcome.TheVariants as outcome
use Rattle.step_machine.specs.Names.{History, Happens}
use Rattle.queue_parties.specs.Parties.{QueueCounts}
use Rattle.queue_layouts.specs.declared.AnyQueue.{AnyQueue}
use Rattle.ownership_runs.specs.{Violation, RunNotes, entry_counts, run_counts, keeps_entry, violation_at, judged_entry, violation_from}
use Rattle.ownership_runs.specs.{first_ownership_violation, nothing_noted, noted_as, noted_more, noted_all, noted_after}

module _ (q : AnyQueue) where
  pub noted-append : (notes : RunNotes) (xs ys : List Entry) → noted_all q notes (xs ++ ys) ≡ noted_all q (noted_all q notes xs) ys
  noted-append notes [] ys = refl
  noted-append notes (x ∷ xs) ys = noted-append (noted_more q notes x) xs ys

  -- the first violation stays the first
  still-broken : (place : ℕ) (c : QueueCounts) (b : Violation) (es : List Entry)
      → noted_all q (record { found = Some b; counts = c; place = place }) es ≡ record { found = Some b; counts = c; place = place }
  still-broken place c b [] = refl
  still-broken place c b (e ∷ es) = still-broken place c b es

  abbrev kept : (place : ℕ) → QueueCounts → RunNotes
  kept place c = record { found = None; counts = c; place = place }

  found-after : (place : ℕ) (c : QueueCounts) (es : List Entry) → (noted_all q (kept place c) es).found ≡ violation_from q place c es
  found-after place c [] = refl
  found-after place c (e ∷ es) = by (found-after (place + 1) (entry_counts q c e) es) (keeps_entry q c e)
    where
      by : (noted_all q (kept (place + 1) (entry_counts q c e)) es).found ≡ violation_from q (place + 1) (entry_counts q c e) es → (ok : Bool)
          → (noted_all q (noted_as (kept place c) (if ok then Ok (entry_counts q c e) else Err (violation_at q place c e))) es).found
          ≡ (if ok then violation_from q (place + 1) (entry_counts q c e) es else Some (violation_at q place c e))
      by later true = later
      by later false = ap (λ (notes : RunNotes). notes.found) (still-broken place c (violation_at q place c e) es)

  kept-after : (place : ℕ) (c : QueueCounts) (es : List Entry) → violation_from q place c es ≡ None
      → noted_all q (kept place c) es ≡ kept (place + length es) (run_counts q c es)
  kept-after place c [] none = ap (λ (n : ℕ). kept n c) (let same : place ≡ place + 0 = omega arith in same)
  kept-after place c (e ∷ es) none = by (λ rest. kept-after (place + 1) (entry_counts q c e) es rest) (keeps_entry q c e) none
    where
      by : (violation_from q (place + 1) (entry_counts q c e) es ≡ None
          → noted_all q (kept (place + 1) (entry_counts q c e)) es ≡ kept (place + 1 + length es) (run_counts q (entry_counts q c e) es)) → (ok : Bool)
          → (if ok then violation_from q (place + 1) (entry_counts q c e) es else Some (violation_at q place c e)) ≡ None
          → noted_all q (noted_as (kept place c) (if ok then Ok (entry_counts q c e) else Err (violation_at q place c e))) es
          ≡ kept (place + length (e ∷ es)) (run_counts q (entry_counts q c e) es)
      by later true rest =
          let further : place + 1 + length es ≡ place + length (e ∷ es) = omega arith in
          later rest ∙ ap (λ (n : ℕ). kept n (run_counts q (entry_counts q c e) es)) further
      by later false some = cc

  pub first-noted : (start : QueueCounts) (es : List Entry) → (noted_all q (nothing_noted start) es).found ≡ first_ownership_violation q start es
  first-noted start es = found-after 0 start es

  pub all-noted : (start : QueueCounts) (es : List Entry) → first_ownership_violation q start es ≡ None
      → noted_all q (nothing_noted start) es ≡ kept (length es) (run_counts q start es)
  all-noted start es none = kept-after 0 start es none
      ∙ ap (λ (n : ℕ). kept n (run_counts q start es)) (let same : 0 + length es ≡ length es = omega arith in same)

  pub nothing-more : (notes : RunNotes) (b : Violation) (e : Entry) → notes.found ≡ Some b → noted_more q notes e ≡ notes
  nothing-more notes b e found =
      ap (λ x. elim x [ None ↦ noted_as notes (judged_entry q notes.place notes.counts e) | Some violation ↦ notes ]) found

  -- the notes of the first i entries, and the next one more
  pub next-noted : (start : QueueCounts) (es : List Entry) (i : ℕ) (d : Entry) (notes new : RunNotes) → i < length es
      → notes ≡ noted_all q (nothing_noted start) (take i es) → new ≡ noted_more q notes (get_or es i d)
      → new ≡ noted_all q (nothing_noted start) (take (i + 1) es)
  next-noted start es i d notes new within are is = is ∙ ap (λ (n : RunNotes). noted_more q n (get_or es i d)) are
      ∙ sym (noted-append (nothing_noted start) (take i es) (get_or es i d ∷ [])) ∙ ap (noted_all q (nothing_noted start)) (sym (take_more es i d within))

  -- what an event adds is noted as in the run with it
  pub event-noted : (B M : ℕ) (start : QueueCounts) (ev : Event) (t u : History) (o : Outcome) → Happens B M t ev o u
      → noted_after q (noted_all q (nothing_noted start) t.entries) o ≡ noted_all q (nothing_noted start) u.entries
  event-noted B M start ev t u (outcome.Did e) adds = sym (noted-append (nothing_noted start) t.entries (e ∷ []))
      ∙ ap (λ (v : History). noted_all q (nothing_noted start) v.entries) (sym adds.after)
  event-noted B M start ev t u o idles = ap (λ (v : History). noted_all q (nothing_noted start) v.entries) (sym idles.after)
