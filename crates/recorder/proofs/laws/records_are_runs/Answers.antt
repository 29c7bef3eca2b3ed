use Rattle.recorder.proofs.RunRecords.{record_runs, no_other}
use Rattle.recorder.proofs.laws.records_are_runs.Goals as goal

pub returns-clause-runs : goal.returns-clause-runs
returns-clause-runs c = record_runs

pub returns-clause-no_other : goal.returns-clause-no_other
returns-clause-no_other c = no_other
