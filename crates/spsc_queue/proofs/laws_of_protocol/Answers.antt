use Rattle.spsc_queue.proofs.Runs.{delivered}
use Rattle.spsc_queue.proofs.Landed.{published, returned, empty_landed, full_landed, word_found, room_found, room_landed}
use Rattle.spsc_queue.proofs.laws_of_protocol.Goals as goal

pub returns-clause-fifo : goal.returns-clause-fifo
returns-clause-fifo c = λ B r o before es follows. delivered B r o before es follows

pub returns-clause-publication : goal.returns-clause-publication
returns-clause-publication c = λ B r o before es fs follows more. published B r o before es fs follows more

pub returns-clause-reclamation : goal.returns-clause-reclamation
returns-clause-reclamation c = λ B r o before es fs follows more. returned B r o before es fs follows more

pub returns-clause-linearization_of_empty : goal.returns-clause-linearization_of_empty
returns-clause-linearization_of_empty c =
    λ B r o before es e fs follows u v mine does says was. empty_landed B r o before es e fs follows u v mine does says was

pub returns-clause-linearization_of_full : goal.returns-clause-linearization_of_full
returns-clause-linearization_of_full c = λ B r o before es e fs follows u v mine does says was. full_landed B r o before es e fs follows u v mine does says was

pub returns-clause-room : goal.returns-clause-room
returns-clause-room c = λ B r o before es follows kind. room_landed B r o before es follows kind

pub returns-clause-availability_of_words : goal.returns-clause-availability_of_words
returns-clause-availability_of_words c =
    λ B r o before es fs e gs follows u v mine does was more. word_found B r o before es fs e gs follows u v mine does was more

pub returns-clause-availability_of_room : goal.returns-clause-availability_of_room
returns-clause-availability_of_room c =
    λ B r o before es fs e gs follows u v mine does was more. room_found B r o before es fs e gs follows u v mine does was more
