use Rattle.std.proofs.Common.{refl, subst, rules, ◌≡◌, List}
use Rattle.step_machine.specs.declared.events.Event.{Event}
use Rattle.shrink.specs.Shrinking.{IsPartOf}
use Rattle.judged_runs.proofs.Schedules.{schedule_is}
use Rattle.judged_runs.proofs.telling.shown.Goals as goal

pub returns : goal.returns
returns g c =
    let runs = c.args.runs.now in
    let judge = runs.judge.now in
    let same : c.from.result ≡ c.args.number = search rules in
    let given = schedule_is runs.draw c.harts-harts.result (g.J.Judge.harts judge) runs.size c.args.number (g.G.Rng.stream runs.generator.now)
    (g.G.Rng.stream c.in_ok-there.there) c.draw_by.new.events.items c.draw_by.new.events.items refl c.in_ok-draw_by.ensures.drawn
    c.harts-harts.ensures.value (rw same at c.in_ok-there.ensures) in
    let part = c.leave_out.new.events.items in
    let is : c.deref.result.now ≡ part = c.deref.ensures.value in
    let has = subst (λ (events : List Event). g.J.Judge.has judge events c.in-Some.last) is (c.in_ok-last.ensures.has c.in-Some.last c.in-Some.is) in
    let shows = c.in_ok-leave_out.ensures.holds in
    record {
      is_part = subst (λ (events : List Event). IsPartOf part events) given c.in_ok-leave_out.ensures.part;
      has = has;
      alike = subst (g.J.Judge.alike judge c.args.flaw)
          (subst (λ (events : List Event). (flaw other : _) → g.J.Judge.has judge events flaw → g.J.Judge.has judge events other → flaw ≡ other)
          is c.judge.ensures.one_flaw shows.other c.in-Some.last shows.has has) shows.alike;
      minimal = c.in_ok-leave_out.ensures.minimal;
    }
