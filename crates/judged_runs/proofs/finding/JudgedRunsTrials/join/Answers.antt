use Rattle.std.proofs.Common.{◌-◌, arith, subst}
use Rattle.drawn_runs.specs.Draws.{schedule_by}
use Rattle.judged_runs.specs.Finding.{IsFoundFrom}
use Rattle.judged_runs.proofs.Schedules.{all_both, all_count, flawed_later}
use Rattle.judged_runs.proofs.finding.JudgedRunsTrials.join.Goals as goal

pub join-requires : goal.join-requires
join-requires g c =
    let runs = c.args.self.now in
    let judge = runs.judge.now in
    let Good = g.J.Judge.is_good judge in
    let Has = g.J.Judge.has judge in
    let Counts = g.J.Judge.counts judge in
    let schedule = schedule_by runs.draw (g.J.Judge.harts judge) runs.size (g.G.Rng.stream runs.generator.now) in
    let meet = c.requires in
    let before = subst (IsFoundFrom Good Has Counts schedule 0 meet.middle) c.in-Good.is meet.before in
    let after = subst (IsFoundFrom Good Has Counts schedule meet.middle meet.end) c.in-Good-later.is meet.after in (
      meet.middle,
      meet.end - meet.middle,
      omega (arith, meet.order, meet.few),
      all_count schedule Good Counts 0 meet.middle meet.middle c.in-Good.tally before (omega arith),
      all_count schedule Good Counts meet.middle meet.end (meet.end - meet.middle) c.in-Good-later.more after (omega (arith, meet.order)),
    )

pub returns-in-Good-later : goal.returns-in-Good-later
returns-in-Good-later g c = λ middle end order before after.
    let runs = c.args.self.now in
    let judge = runs.judge.now in
    let Good = g.J.Judge.is_good judge in
    let Has = g.J.Judge.has judge in
    let Counts = g.J.Judge.counts judge in
    let schedule = schedule_by runs.draw (g.J.Judge.harts judge) runs.size (g.G.Rng.stream runs.generator.now) in
    all_both schedule Good Counts 0 middle end c.in-Good.tally c.in-Good-later.more c.join.new.tally
    (subst (IsFoundFrom Good Has Counts schedule 0 middle) c.in-Good.is before)
    (subst (IsFoundFrom Good Has Counts schedule middle end) c.in-Good-later.is after) c.join.ensures

pub returns-in-Flawed : goal.returns-in-Flawed
returns-in-Flawed g c = λ middle end order before after.
    let runs = c.args.self.now in
    let judge = runs.judge.now in
    let Good = g.J.Judge.is_good judge in
    let Has = g.J.Judge.has judge in
    let Counts = g.J.Judge.counts judge in
    let schedule = schedule_by runs.draw (g.J.Judge.harts judge) runs.size (g.G.Rng.stream runs.generator.now) in
    let first = subst (IsFoundFrom Good Has Counts schedule 0 middle) c.in-Good.is before in
    flawed_later schedule Good Has 0 middle end c.in-Flawed.number c.in-Flawed.flaw first.good
    (subst (IsFoundFrom Good Has Counts schedule middle end) c.in-Flawed.is after)
