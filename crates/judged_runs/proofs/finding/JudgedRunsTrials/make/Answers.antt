use Rattle.std.proofs.Common.{subst, arith, rules, ◌≡◌, List}
use Rattle.step_machine.specs.declared.events.Event.{Event}
use Rattle.recorder.proofs.Drawn.{left_after-more}
use Rattle.drawn_runs.specs.Draws.{schedule_by}
use Rattle.judged_runs.proofs.Schedules.{all_none, all_more, all_count, schedule_is}
use Rattle.judged_runs.proofs.finding.JudgedRunsTrials.make.Goals as goal

pub loop-number-init : goal.loop-number-init
loop-number-init g c =
    let runs = c.args.self.now in
    let judge = runs.judge.now in
    let same : c.from.result ≡ c.args.first = search rules in
    record {
      stands = c.in_ok-bench.ensures;
      good = all_none (schedule_by runs.draw (g.J.Judge.harts judge) runs.size (g.G.Rng.stream runs.generator.now)) (g.J.Judge.is_good judge)
          (g.J.Judge.counts judge) c.args.first c.in_ok-tally.tally c.in_ok-tally.ensures;
      left = rw same at c.in_ok-there.ensures;
    }

pub add-requires-clause-counted : goal.add-requires-clause-counted
add-requires-clause-counted g c =
    let runs = c.args.self.now in
    let judge = runs.judge.now in
    all_count (schedule_by runs.draw (g.J.Judge.harts judge) runs.size (g.G.Rng.stream runs.generator.now)) (g.J.Judge.is_good judge)
    (g.J.Judge.counts judge) c.args.first c.loop-number.number 4294967294 c.loop-number.tally c.loop-number.invariant.good
    (omega (arith, c.loop-number-test.true, c.ranges.end.fits))

pub loop-number-preserved : goal.loop-number-preserved
loop-number-preserved g c =
    let runs = c.args.self.now in
    let judge = runs.judge.now in
    let stream = g.G.Rng.stream runs.generator.now in
    let schedule = schedule_by runs.draw (g.J.Judge.harts judge) runs.size stream in
    let is = schedule_is runs.draw c.harts-harts.result (g.J.Judge.harts judge) runs.size c.loop-number.number stream
    (g.G.Rng.stream c.loop-number.there) c.draw_by.new.events.items c.deref.result.now c.deref.ensures.value c.in_ok-draw_by.ensures.drawn
    c.harts-harts.ensures.value c.loop-number.invariant.left in
    record {
      stands = c.in_ok-flaw.ensures.stands;
      good = all_more schedule (g.J.Judge.is_good judge) (g.J.Judge.counts judge) c.args.first c.loop-number.number c.loop-number.tally c.add.new.tally
          c.loop-number.invariant.good (subst (g.J.Judge.is_good judge) is (c.in_ok-flaw.ensures.good c.in-None.is))
          (λ all counted. c.add.ensures all (schedule c.loop-number.number) counted
          (subst (λ (events : List Event). g.J.Judge.noted judge events c.judge.new.bench) is (c.in_ok-flaw.ensures.noted c.in-None.is)));
      left = left_after-more runs.size c.loop-number.number stream (g.G.Rng.stream c.loop-number.there) (g.G.Rng.stream c.draw_by.new.generator)
          c.loop-number.invariant.left c.in_ok-draw_by.ensures.rest;
    }

pub returns-in-Some : goal.returns-in-Some
returns-in-Some g c =
    let runs = c.args.self.now in
    let judge = runs.judge.now in
    let stream = g.G.Rng.stream runs.generator.now in
    let is = schedule_is runs.draw c.harts-harts.result (g.J.Judge.harts judge) runs.size c.loop-number.number stream
    (g.G.Rng.stream c.loop-number.there) c.draw_by.new.events.items c.deref.result.now c.deref.ensures.value c.in_ok-draw_by.ensures.drawn
    c.harts-harts.ensures.value c.loop-number.invariant.left in
    record {
      within = c.loop-number-test.true;
      before = c.loop-number.invariant.good.good;
      has = subst (λ (events : List Event). g.J.Judge.has judge events c.in-Some.flaw) is (c.in_ok-flaw.ensures.has c.in-Some.flaw c.in-Some.is);
    }
