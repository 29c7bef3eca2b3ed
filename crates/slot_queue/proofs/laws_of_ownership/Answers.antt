use Rattle.std.proofs.Common.{arith}
use Rattle.queue_parties.specs.Parties.{the_sender, the_receiver}
use Rattle.slot_queue.proofs.Codes.{least-near}
use Rattle.slot_queue.proofs.Runs.{window}
use Rattle.slot_queue.proofs.HandingOver.{published, published_with, handed, waited, passed_on}
use Rattle.slot_queue.proofs.OwnIndex.{own_index, look}
use Rattle.slot_queue.proofs.Records.{in_order, in_order_as_learned}
use Rattle.slot_queue.proofs.laws_of_ownership.Goals as goal

pub returns-clause-window : goal.returns-clause-window
returns-clause-window c = λ B q start o before es follows. window B q start o before es follows

pub returns-clause-publication : goal.returns-clause-publication
returns-clause-publication c = λ B q start o before es fs follows p more. published B q start o before es fs follows p more

pub returns-clause-publication_of_store : goal.returns-clause-publication_of_store
returns-clause-publication_of_store c = λ B q start o before es e fs follows p w of_p does more.
    published_with B q start o before es e fs follows p more

pub returns-clause-other_memory : goal.returns-clause-other_memory
returns-clause-other_memory c = λ B q start o before es fs follows p more h x alone leave. passed_on B q start o before es fs follows p more h x alone leave

pub returns-clause-delivery : goal.returns-clause-delivery
returns-clause-delivery c = λ B q start o before es e fs follows k x of_k from past given has left h.
    handed B q start o before es e fs follows the_sender k from past x of_k (omega (arith, given)) (omega (arith, has)) left h

pub returns-clause-handing_back : goal.returns-clause-handing_back
returns-clause-handing_back c = λ B q start o before es e fs follows k x of_k from past given has left h.
    handed B q start o before es e fs follows the_receiver k from past x of_k given has left h

pub returns-clause-waiting : goal.returns-clause-waiting
returns-clause-waiting c = λ B q start o before es follows k x of_k sent given left g h. waited B q start o before es follows k x of_k sent given left g h

pub returns-clause-in_order : goal.returns-clause-in_order
returns-clause-in_order c = λ B q start o before es follows left. in_order B q start o before es follows left

pub returns-clause-in_order_as_learned : goal.returns-clause-in_order_as_learned
returns-clause-in_order_as_learned c = λ B q start o before es follows. in_order_as_learned B q start o before es follows

pub returns-clause-own_index : goal.returns-clause-own_index
returns-clause-own_index c = λ B q start o before es follows p. own_index B q start o before es follows p

pub returns-clause-look : goal.returns-clause-look
returns-clause-look c = λ B q start o before es e follows tells p v of_p does. look B q start o before es e follows tells p v of_p does

pub returns-clause-least_count : goal.returns-clause-least_count
returns-clause-least_count c = λ q is n j from below. least-near q is n j from below
