use Rattle.recorder.proofs.HeadLaws.{refused_record}
use Rattle.recorder.proofs.laws.refused_without_value.Goals as goal

pub returns-clause-records : goal.returns-clause-records
returns-clause-records c = refused_record
