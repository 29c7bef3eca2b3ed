-- The queue's protocol: what sender and receiver do to memory, by the entries of a run and by nothing of their programs. A
-- state of both parties, what each entry makes of it, and which stores to the block a party may make there.
use Rattle.std.specs.Prelude.{ℕ, ◌≡◌, ◌≢◌, ◌⊎◌, ◌+◌, ◌^◌, ◌<◌, ◌==◌, not, if◌then◌else◌, Bool, false, Option, None, Some, List, [], ◌∷◌, ◌++◌}
use Rattle.memory.specs.declared.writes.Write.{Write}
use Rattle.memory.specs.Writes.{write}
use Rattle.step_machine.specs.declared.events.Entry.{Entry}
use Rattle.step_machine.specs.Access.{Access, load, store, exchange, access_of}
use Rattle.step_machine.specs.History.{OpeningValue}
use Rattle.step_machine.specs.Entries.{hart_of}
use Rattle.spsc_queue.specs.RingBuffers.{Kind, lamport, fastforward, RingBuffer, next, overlaps, waiting_words}

-- the sender rests; it has read u as its own head; it has seen that the slot there is free, by the tail v, of which it keeps a copy
-- that it has yet to store; it has seen so and has none to store; it has stored a word there
pub data SenderState : Type 0 where
  resting : SenderState
  placed : (u : ℕ) → SenderState
  renewing : (u v : ℕ) → SenderState
  roomy : (u : ℕ) → SenderState
  filled : (u : ℕ) → SenderState

-- the receiver is idle; it has read u as its own tail; it has seen that a word waits there (Lamport's); it has read that
-- word; it has stored a 0 in its place (FastForward's)
pub data ReceiverState : Type 0 where
  idle : ReceiverState
  asked : (u : ℕ) → ReceiverState
  waiting : (u : ℕ) → ReceiverState
  holding : (u w : ℕ) → ReceiverState
  cleared : (u : ℕ) → ReceiverState

-- where both stand; how many words were there at first or the sender stored, and of how many the head was; how many words the receiver took,
-- and of how many it stored the tail; and the words themselves. Lamport's heads publish a word, and its tails take one;
-- FastForward's words are there as soon as they are stored, and a 0 in its slot takes one
pub record ProtocolState : Type 0 where
  pub sending : SenderState
  pub stored : ℕ
  pub published : ℕ
  pub sent : List ℕ
  pub receiving : ReceiverState
  pub taken : ℕ
  pub consumed : ℕ
  pub received : List ℕ

-- where the run begins the words that wait are sent
abbrev pub at_start : RingBuffer → OpeningValue → (before : List Entry) → ProtocolState
at_start r o before = record {
  sending = resting;
  stored = r.begins_with;
  published = r.begins_with;
  sent = waiting_words r o before;
  receiving = idle;
  taken = 0;
  consumed = 0;
  received = [];
}

pub data Role : Type 0 where
  sends : Role
  receives : Role
  passes : Role

abbrev pub role_of : RingBuffer → ℕ → Role
role_of r h = if h == r.sender then sends else (if h == r.receiver then receives else passes)

-- ---- what each party looks at

-- where the sender sees whether the slot at offset u is free: Lamport's tail, FastForward's slot
abbrev pub room_at : Kind → RingBuffer → (u : ℕ) → ℕ
room_at lamport r u = r.tail
room_at fastforward r u = r.slots + u

-- whether v there says that it isn't free: the tail is the next offset, or the slot holds another word than 0
abbrev pub says_full : Kind → RingBuffer → (u v : ℕ) → Bool
says_full lamport r u v = v == next r u
says_full fastforward r u v = not (v == 0)

-- where the receiver sees whether a word waits in the slot at offset u: Lamport's head, FastForward's slot
abbrev pub watched_address : Kind → RingBuffer → (u : ℕ) → ℕ
watched_address lamport r u = r.head
watched_address fastforward r u = r.slots + u

-- whether v there says that none does: the head is this offset, or the slot holds 0
abbrev pub says_empty : Kind → (u v : ℕ) → Bool
says_empty lamport u v = v == u
says_empty fastforward u v = v == 0

-- ---- what an access makes of the state

abbrev pub looks_for_room : Kind → RingBuffer → (u v : ℕ) → SenderState
looks_for_room k r u v = if says_full k r u v then placed u else roomy u

-- the same at the tail itself, by a sender that keeps a copy of it
abbrev pub looks_past_copy : Kind → RingBuffer → (u v : ℕ) → SenderState
looks_past_copy k r u v = if says_full k r u v then placed u else renewing u v

-- where the sender looks for room: by its copy of the tail, if it keeps one, and at the tail or the slot
abbrev pub looks_at : Option ℕ → Kind → RingBuffer → (a u v : ℕ) → SenderState
looks_at None k r a u v = if a == room_at k r u then looks_for_room k r u v else placed u
looks_at (Some c) k r a u v = if a == c then looks_for_room k r u v else (if a == room_at k r u then looks_past_copy k r u v else placed u)

abbrev pub send_look : Kind → RingBuffer → (a v : ℕ) → SenderState → SenderState
send_look k r a v resting = resting
send_look k r a v (placed u) = looks_at r.copy k r a u v
send_look k r a v (renewing u w) = renewing u w
send_look k r a v (roomy u) = roomy u
send_look k r a v (filled u) = filled u

-- a load of the sender: of its own head, where no word is half sent, and then of what says whether there is room
abbrev pub send_load : Kind → RingBuffer → (a v : ℕ) → SenderState → SenderState
send_load k r a v (filled u) = filled u
send_load k r a v p = if a == r.head then placed v else send_look k r a v p

-- a store of the sender to the block: its copy of the tail, a word into its slot, and then the head
abbrev pub send_store : Write → SenderState → ProtocolState → ProtocolState
send_store w (renewing u v) s = record s { sending = roomy u }
send_store w (roomy u) s = record s { sending = filled u; stored = s.stored + 1; sent = s.sent ++ w.value ∷ [] }
send_store w (filled u) s = record s { sending = resting; published = s.published + 1 }
send_store w p s = s

-- Lamport's receiver has seen that a word waits, and FastForward's has read the word by the same load
abbrev pub finds : Kind → (u v : ℕ) → ReceiverState
finds lamport u v = waiting u
finds fastforward u v = holding u v

abbrev pub looks_for_word : Kind → (u v : ℕ) → ReceiverState
looks_for_word k u v = if says_empty k u v then asked u else finds k u v

abbrev pub receive_look : Kind → RingBuffer → (a v : ℕ) → ReceiverState → ReceiverState
receive_look k r a v idle = idle
receive_look k r a v (asked u) = if a == watched_address k r u then looks_for_word k u v else asked u
receive_look k r a v (waiting u) = if a == r.slots + u then holding u v else waiting u
receive_look k r a v (holding u w) = holding u w
receive_look k r a v (cleared u) = cleared u

-- a load of the receiver: of its own tail, where no slot is half freed, then of what says whether a word waits, and of the slot
abbrev pub receive_load : Kind → RingBuffer → (a v : ℕ) → ReceiverState → ReceiverState
receive_load k r a v (cleared u) = cleared u
receive_load k r a v p = if a == r.tail then asked v else receive_look k r a v p

-- a store of the receiver to the block, where it holds a word: Lamport's tail, or a 0 into FastForward's slot and then the tail
abbrev pub takes : Kind → (u : ℕ) → ProtocolState → ProtocolState
takes lamport u s = record s { receiving = idle; taken = s.taken + 1; consumed = s.consumed + 1 }
takes fastforward u s = record s { receiving = cleared u; taken = s.taken + 1 }

abbrev pub receive_store : Kind → ReceiverState → ProtocolState → ProtocolState
receive_store k (holding u w) s = takes k u (record s { received = s.received ++ w ∷ [] })
receive_store k (cleared u) s = record s { receiving = idle; consumed = s.consumed + 1 }
receive_store k p s = s

abbrev pub next_by : Kind → RingBuffer → Role → ProtocolState → Access → ProtocolState
next_by k r sends s (load a width v) = if width == 4 then record s { sending = send_load k r a v s.sending } else s
next_by k r sends s (store w) = if overlaps r w then send_store w s.sending s else s
next_by k r receives s (load a width v) = if width == 4 then record s { receiving = receive_load k r a v s.receiving } else s
next_by k r receives s (store w) = if overlaps r w then receive_store k s.receiving s else s
next_by k r role s x = s

abbrev pub protocol_next : RingBuffer → ProtocolState → Entry → ProtocolState
protocol_next r s e = next_by r.kind r (role_of r (hart_of e)) s (access_of e)

abbrev pub protocol_after : RingBuffer → ProtocolState → List Entry → ProtocolState
protocol_after r s [] = s
protocol_after r s (e ∷ es) = protocol_after r (protocol_next r s e) es

-- both parties after entries of a run that began after those before
abbrev pub parties_after : RingBuffer → OpeningValue → (before es : List Entry) → ProtocolState
parties_after r o before es = protocol_after r (at_start r o before) es

-- ---- which accesses keep the protocol: what anyone loads is free

-- nothing is written to the block
abbrev pub WritesNothingTo : RingBuffer → Access → Type 0
WritesNothingTo r (store w) = overlaps r w ≡ false
WritesNothingTo r (exchange a old new) = overlaps r (write a 4 new) ≡ false
WritesNothingTo r x = Unit {0}

pub record IsWordAt (w : Write) (a : ℕ) : Type 0 where
  pub place : w.addr ≡ a
  pub width : w.width ≡ 4

-- a word that may be sent: for FastForward 0 is no word
abbrev pub IsSendable : Kind → ℕ → Type 0
IsSendable lamport w = Unit {0}
IsSendable fastforward w = w ≢ 0

-- the copy is what it has read of the tail
abbrev pub IsCopyStore : Option ℕ → (v : ℕ) → Write → Type 0
IsCopyStore None v w = ⊥
IsCopyStore (Some c) v w = IsWordAt w c × (w.value ≡ v)

-- the sender's stores to the block: its copy of the tail, where that is to be made; where a slot is free a word into it, and then
-- the head after it
abbrev pub IsSenderStore : Kind → RingBuffer → SenderState → Write → Type 0
IsSenderStore k r (renewing u v) w = IsCopyStore r.copy v w
IsSenderStore k r (roomy u) w = IsWordAt w (r.slots + u) × (w.value < 2 ^ 32) × IsSendable k w.value
IsSenderStore k r (filled u) w = IsWordAt w r.head × (w.value ≡ next r u)
IsSenderStore k r p w = ⊥

-- the receiver's: where it has read a word, the tail after it, or a 0 into that slot and then the tail after it
abbrev pub IsTaking : Kind → RingBuffer → (u : ℕ) → Write → Type 0
IsTaking lamport r u w = IsWordAt w r.tail × (w.value ≡ next r u)
IsTaking fastforward r u w = IsWordAt w (r.slots + u) × (w.value ≡ 0)

abbrev pub IsReceiverStore : Kind → RingBuffer → ReceiverState → Write → Type 0
IsReceiverStore k r (holding u v) w = IsTaking k r u w
IsReceiverStore k r (cleared u) w = IsWordAt w r.tail × (w.value ≡ next r u)
IsReceiverStore k r p w = ⊥

abbrev pub KeepsProtocolBy : Kind → RingBuffer → Role → ProtocolState → Access → Type 0
KeepsProtocolBy k r sends s (store w) = (overlaps r w ≡ false) ⊎ IsSenderStore k r s.sending w
KeepsProtocolBy k r receives s (store w) = (overlaps r w ≡ false) ⊎ IsReceiverStore k r s.receiving w
KeepsProtocolBy k r role s x = WritesNothingTo r x

abbrev pub KeepsProtocol : RingBuffer → ProtocolState → List Entry → Type 0
KeepsProtocol r s [] = Unit {0}
KeepsProtocol r s (e ∷ es) = KeepsProtocolBy r.kind r (role_of r (hart_of e)) s (access_of e) × KeepsProtocol r (protocol_next r s e) es
