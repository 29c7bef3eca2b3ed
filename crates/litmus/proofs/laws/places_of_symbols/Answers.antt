use Rattle.litmus.specs.Grammar.{disjunction}
use Rattle.litmus.proofs.PlaceLaws.{places-symbols}
use Rattle.litmus.proofs.laws.places_of_symbols.Goals as goal

pub returns : goal.returns
returns c = λ symbols f stands. places-symbols disjunction symbols f stands
