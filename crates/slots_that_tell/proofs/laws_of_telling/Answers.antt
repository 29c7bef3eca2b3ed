use Rattle.slots_that_tell.proofs.Runs.{window, look}
use Rattle.slots_that_tell.proofs.HandingOver.{published, published_by, handed, waited}
use Rattle.slots_that_tell.proofs.Records.{in_order, in_order_as_learned}
use Rattle.slots_that_tell.proofs.Codecs.{zero_differs, numbered_differs, bits_differ, phases_differ}
use Rattle.queue_parties.specs.Parties.{the_sender, the_receiver}
use Rattle.std.proofs.Common.{arith}
use Rattle.slots_that_tell.proofs.laws_of_telling.Goals as goal

pub returns-clause-window : goal.returns-clause-window
returns-clause-window c = λ B q n o before es follows. window B q n o before es follows

pub returns-clause-publication : goal.returns-clause-publication
returns-clause-publication c = λ B q n o before es fs follows p more. published B q n o before es fs follows p more

pub returns-clause-publication_of_tag : goal.returns-clause-publication_of_tag
returns-clause-publication_of_tag c = λ B q n o before es e fs follows p more knows. published_by B q n o before es e fs follows p more knows

pub returns-clause-delivery : goal.returns-clause-delivery
returns-clause-delivery c = λ B q n o before es e fs follows k x of_k from past given has kept.
    handed B q n o before es e fs follows the_sender k from past x of_k (omega (arith, given)) (omega (arith, has)) kept

pub returns-clause-handing_back : goal.returns-clause-handing_back
returns-clause-handing_back c = λ B q n o before es e fs follows k x of_k from past given has kept.
    handed B q n o before es e fs follows the_receiver k from past x of_k given has kept

pub returns-clause-in_order : goal.returns-clause-in_order
returns-clause-in_order c = λ B q n o before es follows reads. in_order B q n o before es follows reads

pub returns-clause-in_order_as_learned : goal.returns-clause-in_order_as_learned
returns-clause-in_order_as_learned c = λ B q n o before es follows. in_order_as_learned B q n o before es follows

pub returns-clause-look : goal.returns-clause-look
returns-clause-look c = λ B q n o before es e follows p j v mine does from below silent. look B q n o before es e follows p j v mine does from below silent

pub returns-clause-zero_tells : goal.returns-clause-zero_tells
returns-clause-zero_tells c = λ q p k v has. zero_differs q p k v has

pub returns-clause-numbers_tell : goal.returns-clause-numbers_tell
returns-clause-numbers_tell c = λ m two q apart p k v has. numbered_differs m two q apart p k v has

pub returns-clause-bits_tell : goal.returns-clause-bits_tell
returns-clause-bits_tell c = λ mask free full apart q p k v has. bits_differ mask free full apart q p k v has

pub returns-clause-phases_tell : goal.returns-clause-phases_tell
returns-clause-phases_tell c = λ mask free full odd_free odd_full even turn odd back q some p k v has.
    phases_differ mask free full odd_free odd_full even turn odd back q some p k v has

pub returns-clause-waiting : goal.returns-clause-waiting
returns-clause-waiting c = λ B q start o before es follows k x of_k sent given left g h. waited B q start o before es follows k x of_k sent given left g h
