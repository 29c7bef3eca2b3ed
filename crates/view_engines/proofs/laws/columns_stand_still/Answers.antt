use Rattle.view_engines.proofs.ChartLaws.{same_columns}
use Rattle.view_engines.proofs.laws.columns_stand_still.Goals as goal

pub returns : goal.returns
returns c = same_columns
