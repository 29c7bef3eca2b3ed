use Rattle.std.proofs.Common.{◌∙◌, ap, subst}
use Rattle.step_machine.specs.Names.{History, at_opening, Run, RunFrom}
use Rattle.surveys.specs.Wanted.{EndsAsWanted}
use Rattle.finding.proofs.finds.is_shown_by.Goals as goal

pub returns-in-Ok : goal.returns-in-Ok
returns-in-Ok g c =
    let test = c.args.test.now in
    let end = c.run.new.self.history in
    let ran : Run g.row.B g.row.M test.opening c.args.events.now end =
    subst (λ (t : History). RunFrom g.row.B g.row.M t c.args.events.now end) (c.in_ok-machine.ensures ∙ ap at_opening c.in_ok-opening.ensures.copy)
    c.in-Ok.ensures.ok in
    let judged = c.ends_as_wanted.ensures.history end c.machine_state.ensures.stands in (
      λ shown. record { history = end; ran = ran; ends = judged.0 shown },
      λ shows. judged.1 (subst (EndsAsWanted g.row.M test)
          (c.laws_of_runs.ensures.one g.row.B g.row.M test.opening c.args.events.now shows.history end shows.ran ran) shows.ends),
    )
