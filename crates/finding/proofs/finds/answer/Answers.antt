use Rattle.std.proofs.Common.{◌≡◌, ◌∙◌, ◌<◌, ℕ, List, Some, length, refl, ap, subst, arith, rules, ◌⊎◌, inl, inr, [], ◌∷◌, ◌++◌, map, sym, append_assoc}
use Rattle.std.specs.Prelude.{IsTrue}
use Rattle.std.proofs.lemmas.List.{append-nil}
use Rattle.step_machine.specs.declared.events.Event.{Event}
use Rattle.step_machine.specs.declared.events.Entry.{Entry}
use Rattle.step_machine.specs.declared.events.Outcome.{Outcome}
use Rattle.step_machine.specs.declared.events.Outcome.TheVariants as outcome
use Rattle.step_machine.specs.Names.{History, at_opening, Happens, RunFrom, event_of}
use Rattle.step_machine.proofs.Follows.{event_of-for}
use Rattle.litmus.specs.LitmusTests.{LitmusTest}
use Rattle.recorder.specs.Writing.{canon}
use Rattle.surveys.specs.Wanted.{Shows}
use Rattle.finding.proofs.finds.answer.Goals as goal
use Rattle.finding.specs.Find.{IsWitness}

-- Each event of a shortest schedule is an entry of its run.

-- each of these events adds an entry
record EachAdds (t : History) (evs : List Event) (new : History) : Type 0 where
  es : List Entry
  after : new.entries ≡ t.entries ++ es
  each : evs ≡ map event_of es

-- fewer events make the same history
record FewerDo (B M : ℕ) (t : History) (evs : List Event) (new : History) : Type 0 where
  fewer : List Event
  few : length fewer < length evs
  run : RunFrom B M t fewer new

first_adds : (B M : ℕ) (t mid new : History) (ev : Event) (evs : List Event) (o : Outcome) → Happens B M t ev o mid → RunFrom B M mid evs new
    → EachAdds mid evs new ⊎ FewerDo B M mid evs new → EachAdds t (ev ∷ evs) new ⊎ FewerDo B M t (ev ∷ evs) new
first_adds B M t mid new ev evs (outcome.Did e) happens run (inl added) = inl (record {
  es = e ∷ added.es;
  after = added.after ∙ ap (λ (u : History). u.entries ++ added.es) happens.after ∙ append_assoc t.entries (e ∷ []) added.es;
  each = rw (event_of-for ev e happens.for_event) (ap (λ (es : List Event). ev ∷ es) added.each);
})
first_adds B M t mid new ev evs (outcome.Did e) happens run (inr less) = inr (record {
  fewer = ev ∷ less.fewer;
  few = omega (arith, less.few);
  run = (outcome.Did e, mid, happens, less.run);
})
first_adds B M t mid new ev evs x happens run rest = inr (record {
  fewer = evs;
  few = omega arith;
  run = subst (λ (u : History). RunFrom B M u evs new) happens.after run;
})

each_or_fewer : (B M : ℕ) (t : History) (evs : List Event) (new : History) → RunFrom B M t evs new
    → EachAdds t evs new ⊎ FewerDo B M t evs new
each_or_fewer B M t [] new run = inl (record { es = []; after = ap (λ (u : History). u.entries) run ∙ sym (append-nil t.entries); each = refl })
each_or_fewer B M t (ev ∷ evs) new run = first_adds B M t run.1 new ev evs run.0 run.2 run.3 (each_or_fewer B M run.1 evs new run.3)

-- events that show what is looked for, which no fewer do
pub witness_of : (B M : ℕ) (q : LitmusTest) (events : List Event) → Shows B M q events
    → ((fewer : List Event) → length fewer < length events → Shows B M q fewer → ⊥) → IsWitness B M q events
witness_of B M q events shows shortest = record { shows = shows; each = each; shortest = shortest }
  where
    each : events ≡ map event_of shows.history.entries
    each = elim (each_or_fewer B M (at_opening q.opening) events shows.history shows.ran) [
      | inl added ↦ added.each ∙ ap (λ (es : List Entry). map event_of es) (sym added.after)
      | inr less ↦ absurd (shortest less.fewer less.few (record { history = shows.history; ran = less.run; ends = shows.ends }))
    ]

pub returns-then-len-gt-INPUT_BYTES : goal.returns-then-len-gt-INPUT_BYTES
returns-then-len-gt-INPUT_BYTES g c =
    let events = c.in-Some.path.items in
    let handed : c.in_ok-states.field-0.path ≡ Some c.in-Some.path = cc in
    let shown : IsTrue c.in_ok-is_shown_by.field-0 = search rules in
    let shows = subst (λ (es : List Event). Shows g.row.B g.row.M c.args.test.now es) c.deref.ensures.value (c.in_ok-is_shown_by.ensures.0 shown) in
    rw c.refused.ensures (
      refl,
      record {
        events = events;
        witness = witness_of g.row.B g.row.M c.args.test.now events shows (rw handed at c.in_ok-states.ensures.shortest);
        many = subst (λ (bytes : List ℕ). 1048576 < length bytes) (c.in_ok-text.ensures.canonical ∙ ap canon c.deref-then-branch.ensures.value) (omega arith);
      },
    )

pub returns-then-branch : goal.returns-then-branch
returns-then-branch g c =
    let events = c.in-Some.path.items in
    let handed : c.in_ok-states.field-0.path ≡ Some c.in-Some.path = cc in
    let shown : IsTrue c.in_ok-is_shown_by.field-0 = search rules in
    let shows = subst (λ (es : List Event). Shows g.row.B g.row.M c.args.test.now es) c.deref.ensures.value (c.in_ok-is_shown_by.ensures.0 shown) in (
      events,
      witness_of g.row.B g.row.M c.args.test.now events shows (rw handed at c.in_ok-states.ensures.shortest),
      rw handed at c.in_ok-states.ensures.within.few,
      c.in_ok-text.ensures.canonical ∙ ap canon c.deref-then-branch.ensures.value,
      omega arith,
    )
