use Rattle.std.proofs.Common.{refl, arith}
use Rattle.std.proofs.lemmas.Result.{on_ok_weaker}
use Rattle.sampling.proofs.TallyLaws.{tallied, or_true, or_none}
use Rattle.sampling.proofs.trials.tally.Tally.add.Goals as goal

pub returns-in-Holds : goal.returns-in-Holds
returns-in-Holds g c = record {
  tallied = rw c.in-Holds.is
      (tallied g.F.FirstRun.name _ c.args.run _ c.args.values.now c.args.self.now _ refl refl refl (or_true c.args.self.now.some_hold)
      (or_none c.args.self.now.some_fail) c.count_outcome.ensures);
  stops = rw c.in-Holds.is (on_ok_weaker c.count_outcome.result (λ counted p within few. omega (arith, few)) c.count_outcome.ensures);
}

pub returns-in-Fails : goal.returns-in-Fails
returns-in-Fails g c = record {
  tallied = rw c.in-Fails.is
      (tallied g.F.FirstRun.name _ c.args.run _ c.args.values.now c.args.self.now _ refl refl refl (or_none c.args.self.now.some_hold)
      (or_true c.args.self.now.some_fail) c.count_outcome-in-Fails.ensures);
  stops = rw c.in-Fails.is
      (on_ok_weaker c.count_outcome-in-Fails.result (λ counted p within few. omega (arith, few)) c.count_outcome-in-Fails.ensures);
}
