use Rattle.std.proofs.Common.{arith}
use Rattle.std.proofs.lemmas.Result.{on_ok_weaker}
use Rattle.sampling.proofs.TallyMerging.{from_both, both_few, both_unfinished_few}
use Rattle.sampling.proofs.trials.parallel.TestRunsTrials.join.Goals as goal

pub take_in-requires-clause-counts : goal.take_in-requires-clause-counts
take_in-requires-clause-counts g c =
    let meet = c.requires in
    both_few _ meet.middle meet.end _ _ meet.order meet.before meet.after 18446744073709551616 (omega (arith, meet.few))

pub take_in-requires-clause-unfinished : goal.take_in-requires-clause-unfinished
take_in-requires-clause-unfinished g c =
    let meet = c.requires in
    both_unfinished_few _ meet.middle meet.end _ _ meet.order meet.before meet.after 4294967296 meet.few

pub returns : goal.returns
returns g c =
    on_ok_weaker c.take_in.result (λ merged middle end order first second. from_both _ middle end _ _ order first second _ merged) c.take_in.ensures.merged
