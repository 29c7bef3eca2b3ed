use Rattle.chart.proofs.ColumnLaws.{same_heads, same_width}
use Rattle.chart.proofs.laws.laws_of_columns.Goals as goal

pub returns-clause-heads : goal.returns-clause-heads
returns-clause-heads c = same_heads

pub returns-clause-width : goal.returns-clause-width
returns-clause-width c = same_width
