use Rattle.recorder.proofs.CanBeWritten.{text_can_be_written, run_can_be_written}
use Rattle.recorder.proofs.laws.records_can_be_written.Goals as goal

pub returns-clause-texts : goal.returns-clause-texts
returns-clause-texts c = text_can_be_written

pub returns-clause-runs : goal.returns-clause-runs
returns-clause-runs c = run_can_be_written
