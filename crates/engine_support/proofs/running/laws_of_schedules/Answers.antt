use Rattle.engine_support.proofs.RunLaws.{one_run, one_record}
use Rattle.engine_support.proofs.running.laws_of_schedules.Goals as goal

pub returns-clause-runs : goal.returns-clause-runs
returns-clause-runs c = one_run

pub returns-clause-records : goal.returns-clause-records
returns-clause-records c = one_record
