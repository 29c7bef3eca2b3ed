use Rattle.std.proofs.Common.{refl}
use Rattle.sampling.proofs.TallyLaws.{nothing_counted}
use Rattle.sampling.proofs.trials.tally.Tally.new.Goals as goal

pub returns : goal.returns
returns g c = nothing_counted _ c.new.ensures refl refl refl refl
