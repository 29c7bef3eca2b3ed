-- Parts of lists, and that a run's entries come about by a part of its events.
use Rattle.std.proofs.Common.{◌≡◌, ℕ, zero, suc, ◌+◌, List, [], ◌∷◌, ◌++◌, sym, ap, ◌∙◌, arith, drop, append_assoc}
use Rattle.std.specs.Prelude.{map}
use Rattle.std.proofs.lemmas.List.{append-nil}
use Rattle.step_machine.specs.declared.events.Event.{Event}
use Rattle.step_machine.specs.declared.events.Entry.{Entry}
use Rattle.step_machine.specs.declared.events.Outcome.{Outcome}
use Rattle.step_machine.specs.declared.events.Outcome.TheVariants as outcome
use Rattle.step_machine.specs.Names.{OpeningValue, History, Happens, RunFrom, Run, event_of}
use Rattle.step_machine.proofs.Follows.{event_of-for}
use Rattle.shrink.specs.Shrinking.{IsPartOf, empty, with_first, without_first, without}

pub part_whole : (es : List Event) → IsPartOf es es
part_whole [] = empty
part_whole (ev ∷ es) = with_first ev es es (part_whole es)

pub part_of_part : (a b c : List Event) → IsPartOf a b → IsPartOf b c → IsPartOf a c
part_of_part a b c ab empty = ab
part_of_part a b c ab (without_first ev part whole bc) = without_first ev a whole (part_of_part a b whole ab bc)
part_of_part a b c (with_first ev x y xy) (with_first _ part whole bc) = with_first ev x whole (part_of_part x part whole xy bc)
part_of_part a b c (without_first ev x y xy) (with_first _ part whole bc) = without_first ev a whole (part_of_part a part whole xy bc)

part_drop : (n : ℕ) (es : List Event) → IsPartOf (drop n es) es
part_drop zero es = part_whole es
part_drop (suc n) [] = empty
part_drop (suc n) (ev ∷ es) = without_first ev (drop n es) es (part_drop n es)

pub part_without : (from count : ℕ) (es : List Event) → IsPartOf (without from count es) es
part_without zero count es = let none : 0 + count ≡ count = omega arith in rw none (part_drop count es)
part_without (suc from) count [] = let next : suc from + count ≡ suc (from + count) = omega arith in rw next empty
part_without (suc from) count (ev ∷ es) =
    let next : suc from + count ≡ suc (from + count) = omega arith in
    rw next (with_first ev (without from count es) es (part_without from count es))

-- ---- the entries of a run

-- the entries that some events add
record Added (t : History) (evs : List Event) (new : History) : Type 0 where
  es : List Entry
  after : new.entries ≡ t.entries ++ es
  part : IsPartOf (map event_of es) evs

idle_first : (ev : Event) (evs : List Event) (t mid new : History) → mid ≡ t → Added mid evs new → Added t (ev ∷ evs) new
idle_first ev evs t mid new same added = record {
  es = added.es;
  after = rw (← same) added.after;
  part = without_first ev (map event_of added.es) evs added.part;
}

added_first : (B M : ℕ) (t mid new : History) (ev : Event) (evs : List Event) (o : Outcome) → Happens B M t ev o mid
    → Added mid evs new → Added t (ev ∷ evs) new
added_first B M t mid new ev evs (outcome.Did e) happens added = record {
  es = e ∷ added.es;
  after = added.after ∙ ap (λ (u : History). u.entries ++ added.es) happens.after ∙ append_assoc t.entries (e ∷ []) added.es;
  part = rw (event_of-for ev e happens.for_event) (with_first ev (map event_of added.es) evs added.part);
}
added_first B M t mid new ev evs x happens added = idle_first ev evs t mid new happens.after added

added_by : (B M : ℕ) (t : History) (evs : List Event) (new : History) → RunFrom B M t evs new → Added t evs new
added_by B M t [] new run = record { es = []; after = ap (λ (u : History). u.entries) run ∙ sym (append-nil t.entries); part = empty }
added_by B M t (ev ∷ evs) new run = added_first B M t run.1 new ev evs run.0 run.2 (added_by B M run.1 evs new run.3)

-- a run's entries come about by a part of its events
pub part_of_run : (B M : ℕ) (o : OpeningValue) (evs : List Event) (t : History) → Run B M o evs t → IsPartOf (map event_of t.entries) evs
part_of_run B M o evs t run = grind (arith, added_by)
