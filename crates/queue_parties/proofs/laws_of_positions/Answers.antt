use Rattle.queue_parties.proofs.Positions.{slot-within, one-slot, far}
use Rattle.queue_parties.proofs.Records.{numbers-prefix}
use Rattle.queue_parties.proofs.laws_of_positions.Goals as goal

pub returns-clause-within : goal.returns-clause-within
returns-clause-within c = λ slots width size some k x of_k. slot-within slots width size some k x of_k

pub returns-clause-one_slot : goal.returns-clause-one_slot
returns-clause-one_slot c = λ slots width size some j k x of_j of_k. one-slot slots width size some j k x of_j of_k

pub returns-clause-next_round : goal.returns-clause-next_round
returns-clause-next_round c = λ slots width size some j k x of_j of_k lt. far slots width size some j k x of_j of_k lt

pub returns-clause-beginning : goal.returns-clause-beginning
returns-clause-beginning c = λ R k few many le. numbers-prefix R k few many le
