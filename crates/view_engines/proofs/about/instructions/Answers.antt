use Rattle.std.proofs.Common.{◌≡◌, ℕ, ◌+◌, ◌<◌, List, [], ◌∷◌, ◌++◌, length, take, drop, map, get_or, sym, ap, ap₂, ◌∙◌, subst, arith}
use Rattle.std.specs.List.{range_with_len}
use Rattle.std.specs.String.{string_bytes}
use Rattle.std.specs.Global.{Global}
use Rattle.std.specs.Prelude.{Option}
use Rattle.std.specs.declared.string.String.{String}
use Rattle.std.proofs.lemmas.List.{take_more, take-append-drop, map-append}
use Rattle.std.proofs.lemmas.List.FromFn.{map-range_with_len_more}
use Rattle.std.proofs.lemmas.Option.{slice_get-get_or}
use Rattle.step_machine.specs.declared.events.Entry.{Entry}
use Rattle.step_machine.specs.declared.events.Event.{Event}
use Rattle.step_machine.specs.declared.events.Outcome.{Outcome}
use Rattle.step_machine.specs.Names.{OpeningValue, History, history_of, at_opening, WellFormed, Happens, Run, event_of}
use Rattle.step_machine.proofs.{kept-front, own_run, RunFrom-more, run-one}
use Rattle.view_engines.proofs.about.instructions.Goals as goal
use Rattle.view_engines.specs.About.{instruction_of, instruction_after, instruction_of_row}

-- A machine that runs a history's own entries anew, one after the other.

module _ (B M : ℕ) (o : OpeningValue) (es : List Entry) (kept : WellFormed B M (history_of o es)) where
  front_kept : (k : ℕ) → WellFormed B M (history_of o (take k es))
  front_kept k =
      kept-front B M o (take k es) (drop k es)
      (subst (λ (xs : List Entry). WellFormed B M (history_of o xs)) (sym (take-append-drop k es)) kept)

  own_front : (k : ℕ) → Run B M o (map event_of (take k es)) (history_of o (take k es))
  own_front k = own_run B M (history_of o (take k es)) (front_kept k)

  module _ (i : ℕ) (d : Entry) (within : i < length es) (t : History) (here : t ≡ history_of o (take i es)) where
    -- the next entry's event makes that entry again
    pub next_front : (out : Outcome) (new : History) → Happens B M t (event_of (get_or es i d)) out new
        → new ≡ history_of o (take (i + 1) es)
    next_front out new happens =
        let ev : Event = event_of (get_or es i d) in
        let events : map event_of (take (i + 1) es) ≡ map event_of (take i es) ++ ev ∷ [] =
        ap (map event_of) (take_more es i d within) ∙ map-append event_of (take i es) (get_or es i d ∷ []) in
        let again = RunFrom-more B M (at_opening o) (map event_of (take i es)) (history_of o (take i es)) ev out new (own_front i)
        (subst (λ (u : History). Happens B M u ev out new) here happens) in
        run-one B M (at_opening o) (map event_of (take i es) ++ ev ∷ []) new (history_of o (take (i + 1) es)) again
        (subst (λ (evs : List Event). Run B M o evs (history_of o (take (i + 1) es))) events (own_front (i + 1)))

    -- and its instruction is the next one
    pub text_more : (texts more : List (String Global)) (text : String Global) → more ≡ texts ++ text ∷ []
        → map string_bytes texts ≡ map (instruction_of_row M (history_of o es)) (range_with_len 0 i)
        → string_bytes text ≡ instruction_of M t (get_or es i d)
        → map string_bytes more ≡ map (instruction_of_row M (history_of o es)) (range_with_len 0 (i + 1))
    text_more texts more text is before holds =
        let front : History = history_of o (take i es) in
        let next : string_bytes text ≡ instruction_of_row M (history_of o es) i =
        holds ∙ ap (λ (u : History). instruction_of M u (get_or es i d)) here
        ∙ sym (ap (λ (e : Option Entry). instruction_after M front e) (slice_get-get_or es i d within)) in
        ap (map string_bytes) is ∙ map-append string_bytes texts (text ∷ [])
        ∙ ap₂ (λ (xs : List (List ℕ)) (x : List ℕ). xs ++ x ∷ []) before next
        ∙ sym (map-range_with_len_more (instruction_of_row M (history_of o es)) 0 i i (omega arith))

-- one more entry is run, and its instruction written
pub loop-entry-preserved : goal.loop-entry-preserved
loop-entry-preserved g c = record {
  history = next_front g.row.B g.row.M c.args.machine.now.history.opening c.args.entries.now c.requires c.loop-entry.entry-index _
      c.loop-entry-test.true c.loop-entry.machine.history c.loop-entry.invariant.history _ c.step.new.self.history
      (rw c.event.ensures at c.in_ok-step.ensures.happens);
  texts = text_more g.row.B g.row.M c.args.machine.now.history.opening c.args.entries.now c.requires c.loop-entry.entry-index _
      c.loop-entry-test.true c.loop-entry.machine.history c.loop-entry.invariant.history c.loop-entry.texts.items c.push.new.self.items _
      c.in_ok-push.ensures.items c.loop-entry.invariant.texts c.in_ok-instruction_text.ensures;
}
