use Rattle.view_engines.proofs.ShowLaws.{shown_alike}
use Rattle.view_engines.proofs.laws.one_show.Goals as goal

pub returns : goal.returns
returns c = shown_alike
