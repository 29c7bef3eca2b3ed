-- A kept history is the run of its own entries' events, and their only one.
use Rattle.std.proofs.Common.{◌≡◌, List, refl, sym, subst, ap, ap₂, ◌∙◌}
use Rattle.std.specs.Prelude.{map}
use Rattle.step_machine.specs.declared.events.Event.{Event}
use Rattle.step_machine.specs.Names.{OpeningValue, History, history_of, Run, IsOwnRun, event_of}
use Rattle.hart_threads.specs.inner.{IsRunAgain}
use Rattle.hart_threads.proofs.gather.record_of.Goals as goal

pub returns : goal.returns
returns g c =
    let known : IsRunAgain g.row.B g.row.M (history_of c.args.opening.now c.deref.result.now) c.in-Some.events.items
    c.in-Some.machine.history =
    rw c.in-Some.is at c.in_ok-events.ensures in
    let whole : History = history_of c.in_ok-start.start c.args.entries.items in
    let stands : c.in-Some.machine.history ≡ whole = known.stands ∙ ap₂ history_of (sym c.in_ok-start.ensures) c.deref.ensures.value in
    let each : c.in-Some.events.items ≡ map event_of c.args.entries.items = known.each ∙ ap (map event_of) c.deref.ensures.value in
    let own = subst (λ (o : OpeningValue). Run g.row.B g.row.M o (map event_of c.args.entries.items) whole)
    c.in_ok-start.ensures (subst (IsOwnRun g.row.B g.row.M) stands known.own) in (
      record {
        opening = c.in_ok-start.ensures;
        run = subst (λ (evs : List Event). Run g.row.B g.row.M c.args.opening.now evs whole) (sym each) own;
        each = each;
        placed = c.requires.placed;
        stands = stands;
      },
      refl,
    )
