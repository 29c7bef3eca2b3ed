-- A run that follows the queue's protocol, and the counts and words of which its laws speak.
use Rattle.std.specs.Prelude.{ℕ, ◌+◌, List, ◌++◌, take}
use Rattle.step_machine.specs.declared.events.Entry.{Entry}
use Rattle.step_machine.specs.History.{OpeningValue, history_of}
use Rattle.step_machine.specs.Legal.{Legal}
use Rattle.spsc_queue.specs.RingBuffers.{Kind, lamport, fastforward, RingBuffer, IsRingBuffer, IsQuiescent}
use Rattle.spsc_queue.specs.Protocol.{ProtocolState, at_start, ReceiverState, waiting, holding, SenderState, roomy, KeepsProtocol}
pub use Rattle.queue_parties.specs.Positions.{IsPrefix}

-- the entries of a run from where the queue was at rest: they are legal after those before, and keep the protocol
pub record FollowsSpscProtocol (B : ℕ) (r : RingBuffer) (o : OpeningValue) (before es : List Entry) : Type 0 where
  pub ring : IsRingBuffer r
  pub legal : Legal B (history_of o (before ++ es))
  pub rest : IsQuiescent r o before
  pub keeps : KeepsProtocol r (at_start r o before) es

-- how many words the receiver may take: Lamport's whose heads are stored, and each that FastForward's sender stored
abbrev pub available_of : Kind → ProtocolState → ℕ
available_of lamport s = s.published
available_of fastforward s = s.stored

-- how many words of this queue the receiver may take
abbrev pub available_count : RingBuffer → ProtocolState → ℕ
available_count r s = available_of r.kind s

-- the words that the receiver may take
abbrev pub available_words : RingBuffer → ProtocolState → List ℕ
available_words r s = take (available_count r s) s.sent

-- how many words the receiver knows of: those that it took, and one that waits there or that it has read
abbrev pub known_by_state : ReceiverState → ℕ
known_by_state (waiting u) = 1
known_by_state (holding u w) = 1
known_by_state p = 0

abbrev pub known_count : ProtocolState → ℕ
known_count s = s.taken + known_by_state s.receiving

-- the words that are stored or that the sender is about to store
abbrev pub ready_by_state : SenderState → ℕ
ready_by_state (roomy u) = 1
ready_by_state p = 0

abbrev pub ready_count : ProtocolState → ℕ
ready_count s = s.stored + ready_by_state s.sending
