use Rattle.std.proofs.Common.{subst}
use Rattle.std.proofs.lemmas.Result.{IfOk-weaker}
use Rattle.rand_core.specs.Stream.{Stream}
use Rattle.sampling.specs.Trials.{AreTrials}
use Rattle.sampling.proofs.TallyMerging.{from_all}
use Rattle.sampling.proofs.trials.parallel.tally_in_rounds.Goals as goal

pub returns : goal.returns
returns g c =
    let sample = c.args.sample.now in
    let runs = sample.runs in
    IfOk-weaker c.in_rounds-tallied.result _ _ (λ tally is.
    let (trials, are, tallied) = from_all _ runs.number tally is in (
      trials,
      subst (λ (s : Stream). AreTrials g.row.B g.row.M c.args.test.now sample.draw s runs.number runs.length trials) c.in_ok-start.ensures are,
      tallied,
    )) c.in_rounds-tallied.ensures
