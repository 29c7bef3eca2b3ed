use Rattle.view_engines.proofs.ChartLaws.{clear_chart}
use Rattle.view_engines.proofs.laws.charts_are_clear.Goals as goal

pub returns : goal.returns
returns c = clear_chart
