use Rattle.sampling.proofs.TallyMerging.{from_none}
use Rattle.sampling.proofs.trials.parallel.TestRunsTrials.none.Goals as goal

pub returns : goal.returns
returns g c = from_none _ c.new.result c.new.ensures
