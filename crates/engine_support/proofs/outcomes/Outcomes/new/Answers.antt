use Rattle.engine_support.proofs.Rows.{nothing_there}
use Rattle.engine_support.proofs.outcomes.Outcomes.new.Goals as goal

pub returns : goal.returns
returns g c = λ outcome. nothing_there g.F.FirstRun.name _ outcome c.new.ensures.empty
