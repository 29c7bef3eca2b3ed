use Rattle.states.proofs.EndLaws.{of_one_opening, words_of_position, same_words}
use Rattle.states.proofs.GoingOn.{alike_after, reached_after}
use Rattle.states.proofs.laws.laws_of_ends.Goals as goal

pub returns : goal.returns
returns c = record { opening = of_one_opening; words = words_of_position; alike = same_words; reached = reached_after; follows = alike_after }
