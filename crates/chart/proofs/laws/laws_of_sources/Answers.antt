use Rattle.chart.proofs.Given.{landing_joined}
use Rattle.chart.proofs.laws.laws_of_sources.Goals as goal

pub returns-clause-landings : goal.returns-clause-landings
returns-clause-landings c = landing_joined
