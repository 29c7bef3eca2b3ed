use Rattle.spsc_queue.proofs.LamportRuns.{lamport_owns}
use Rattle.spsc_queue.proofs.FastForwardRuns.{fastforward_tells}
use Rattle.spsc_queue.proofs.laws_of_instances.Goals as goal

pub returns-clause-lamport_ring : goal.returns-clause-lamport_ring
returns-clause-lamport_ring c = λ B r o before es kind follows. lamport_owns B r o before es kind follows

pub returns-clause-fastforward_ring : goal.returns-clause-fastforward_ring
returns-clause-fastforward_ring c = λ B r o before es kind follows. fastforward_tells B r o before es kind follows
