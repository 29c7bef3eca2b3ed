use Rattle.std.proofs.Common.{refl}
use Rattle.checking.proofs.TallyLaws.{nothing_counted}
use Rattle.checking.proofs.tally.Tally.new.Goals as goal

pub returns : goal.returns
returns c = nothing_counted _ c.new.ensures refl refl refl
