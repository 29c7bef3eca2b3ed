use Rattle.channel_engines.specs.Lists.{SaysLists, lists_at}
use Rattle.engine_support.proofs.Judging.{accepted_well, accepted-decoded}
use Rattle.channel_engines.proofs.ListTexts.{lists_found, lists_read, one_lists}
use Rattle.channel_engines.proofs.laws.laws_of_list_texts.Goals as goal

pub returns-clause-read : goal.returns-clause-read
returns-clause-read c = λ text lists. (lists_found text lists, lists_read text lists)

pub returns-clause-one : goal.returns-clause-one
returns-clause-one c = one_lists

pub returns-clause-judged : goal.returns-clause-judged
returns-clause-judged c = λ input lists. (
  accepted_well lists_at SaysLists input lists (lists_found input lists),
  accepted-decoded lists_at SaysLists input lists (lists_read input lists),
)
