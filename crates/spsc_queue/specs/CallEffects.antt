-- What one whole call does, from its entry to its return, whatever other harts do meanwhile.
use Rattle.std.specs.Prelude.{ℕ, ◌≡◌, ◌≢◌, ◌+◌, ◌*◌, ◌/◌, ◌%◌, ◌<◌, ◌≤◌, ◌==◌, ◌&&◌, if◌then◌else◌, Bool, true, false, Option, None, Some}
use Rattle.std.specs.Prelude.{List, [], ◌∷◌, ◌++◌, length, slice_index, All}
use Rattle.memory.specs.Writes.{write}
use Rattle.hart.specs.State.{HartState}
use Rattle.hart.specs.Steps.{need_of}
use Rattle.hart.specs.declared.status.Status.TheVariants as status
use Rattle.hart.specs.declared.need.Need.{Need}
use Rattle.hart.specs.declared.need.Need.TheVariants as need
use Rattle.step_machine.specs.declared.events.Entry.{Entry}
use Rattle.step_machine.specs.Access.{Access, nothing, load, store, exchange, access_of}
use Rattle.step_machine.specs.History.{OpeningValue, history_of}
use Rattle.step_machine.specs.Entries.{hart_of, is_own, pending}
use Rattle.step_machine.specs.Paths.{state_of}
use Rattle.spsc_queue.specs.RingBuffers.{Kind, lamport, fastforward, RingBuffer, next, capacity, unpublished, unreleased}
use Rattle.spsc_queue.specs.Protocol.{room_at, says_full, watched_address, says_empty}
use Rattle.spsc_queue.specs.Calls.{Block, SpscQueue, Party, the_sender, the_receiver, buffer, enters, is_in_call, received_words, given_words}

-- hart h calls the function at line n for this block by the entries `call`, which come after `done`: s is its state as it
-- enters, z its state as it has returned. Entries of other harts, and landings, may stand among these entries
pub record IsWholeCall (M : ℕ) (o : OpeningValue) (h n : ℕ) (k : Block) (before done call : List Entry) (s z : HartState) : Type 0 where
  pub entry : state_of M (history_of o (before ++ done)) h ≡ Some s
  pub enters : enters n k s ≡ true
  pub begun : is_in_call M o h n k before done ≡ true
  pub within : (part : List Entry) (e : Entry) (rest : List Entry) → call ≡ part ++ e ∷ rest → is_in_call M o h n k before (done ++ part) ≡ true
  pub over : is_in_call M o h n k before (done ++ call) ≡ false
  pub return : state_of M (history_of o (before ++ (done ++ call))) h ≡ Some z

-- hart h has called the function at line n for this block, and is in the call after each front of `part`: s is its state as it
-- entered
pub record IsCallUnderWay (M : ℕ) (o : OpeningValue) (h n : ℕ) (k : Block) (before done part : List Entry) (s : HartState) : Type 0 where
  pub entry : state_of M (history_of o (before ++ done)) h ≡ Some s
  pub enters : enters n k s ≡ true
  pub within : (front rest : List Entry) → part ≡ front ++ rest → is_in_call M o h n k before (done ++ front) ≡ true

-- what a hart in a call wants next: nothing of memory, a load or a store. So it doesn't stop there, nor make an environment
-- call
abbrev pub IsPlainNeed : Need → Type 0
IsPlainNeed need.Inner = Unit {0}
IsPlainNeed (need.Load a width) = Unit {0}
IsPlainNeed (need.Store a width w) = Unit {0}
IsPlainNeed other = ⊥

-- how many entries a whole call makes at most, of a sender that keeps a copy of the tail, or of any other party
abbrev pub longest_send : Option ℕ → ℕ
longest_send None = 11
longest_send (Some c) = 15

abbrev pub longest : Party → RingBuffer → ℕ
longest the_sender r = longest_send r.copy
longest the_receiver r = 11

-- a hart that is in a call which makes at most `most` entries, in state z, after this many of them: it runs, it only computes, loads
-- or stores next, and there is one more to come
pub record ContinuesCall (most : ℕ) (z : HartState) (count : ℕ) : Type 0 where
  pub runs : z.status ≡ status.Running
  pub needs : IsPlainNeed (need_of z)
  pub short : count < most

-- `call` is a whole call of the sender's function
abbrev pub IsSend : (M : ℕ) → OpeningValue → SpscQueue → (before done call : List Entry) → (s z : HartState) → Type 0
IsSend M o q before done call s z = IsWholeCall M o q.sender q.send_line q.block before done call s z

-- `call` is a whole call of the receiver's function
abbrev pub IsReceive : (M : ℕ) → OpeningValue → SpscQueue → (before done call : List Entry) → (s z : HartState) → Type 0
IsReceive M o q before done call s z = IsWholeCall M o q.receiver q.receive_line q.block before done call s z

-- the accesses to memory that a hart's own entries make, in program order
abbrev pub memory_access : Access → List Access
memory_access nothing = []
memory_access x = x ∷ []

abbrev pub accesses : ℕ → List Entry → List Access
accesses h [] = []
accesses h (e ∷ es) = if is_own h e then memory_access (access_of e) ++ accesses h es else accesses h es

-- whether a call that sends finds the queue full, where it reads u as the head, c as its copy of the tail, if it keeps one, and v
-- where it looks for room at u
abbrev pub sees_full : Option ℕ → Kind → RingBuffer → (u c v : ℕ) → Bool
sees_full None k r u c v = says_full k r u v
sees_full (Some a) k r u c v = says_full k r u c && says_full k r u v

-- its accesses until it knows. It looks past a copy only where that says that there is no room, and if there is, it makes what it
-- read its copy
abbrev pub look_accesses : Option ℕ → Kind → RingBuffer → (u c v : ℕ) → List Access
look_accesses None k r u c v = load (room_at k r u) 4 v ∷ []
look_accesses (Some a) k r u c v = load a 4 c
    ∷ (if says_full k r u c then load (room_at k r u) 4 v ∷ (if says_full k r u v then [] else store (write a 4 v) ∷ []) else [])

-- those of a call that sends the word w: if the queue is full no more. Else it stores the word, and then the head
abbrev pub send_accesses : Kind → RingBuffer → (w u c v : ℕ) → List Access
send_accesses k r w u c v = load r.head 4 u ∷ (look_accesses r.copy k r u c v
    ++ (if sees_full r.copy k r u c v then [] else store (write (r.slots + u) 4 w) ∷ store (write r.head 4 (next r u)) ∷ []))

-- those of a call that receives, where it reads u as the tail, and v where it looks for a word at u. If v says that there is none
-- the queue is empty. Else it takes the word w: it loads it from Lamport's slot, or stores a 0 into FastForward's, and then it
-- stores the tail
abbrev pub take_accesses : Kind → RingBuffer → (w u : ℕ) → List Access
take_accesses lamport r w u = load (r.slots + u) 4 w ∷ store (write r.tail 4 (next r u)) ∷ []
take_accesses fastforward r w u = store (write (r.slots + u) 4 0) ∷ store (write r.tail 4 (next r u)) ∷ []

abbrev pub receive_accesses : Kind → RingBuffer → (w u v : ℕ) → List Access
receive_accesses k r w u v = load r.tail 4 u ∷ load (watched_address k r u) 4 v ∷ (if says_empty k u v then [] else take_accesses k r w u)

-- FastForward's receiver finds the word itself where it looks for one
abbrev pub IsFound : Kind → (v w : ℕ) → Type 0
IsFound lamport v w = Unit {0}
IsFound fastforward v w = v ≡ w

-- every register except x5, x6, x7, a0 and a1
abbrev pub KeepsOtherRegisters : (xs ys : List ℕ) → Type 0
KeepsOtherRegisters xs ys = (i : ℕ) → i ≢ 5 → i ≢ 6 → i ≢ 7 → i ≢ 10 → i ≢ 11 → slice_index ys i ≡ slice_index xs i

-- the word that a call completes, which has returned in this state
abbrev pub completed_word : HartState → List ℕ
completed_word z = if slice_index z.registers 10 == 1 then slice_index z.registers 11 ∷ [] else []

-- what every call does, of whichever function: it goes back to ra, keeps the other registers, and makes at most `most` entries
pub record Returns (most : ℕ) (s z : HartState) (count : ℕ) : Type 0 where
  pub back : z.pc ≡ slice_index s.registers 1 / 2 * 2
  pub registers : KeepsOtherRegisters s.registers z.registers
  pub short : count ≤ most

-- a call that sends, from state s to state z, of this many entries, with these accesses. It keeps a1
pub record SendEffect (k : Kind) (r : RingBuffer) (s z : HartState) (count : ℕ) (did : List Access) : Type 0 where
  pub returns : Returns (longest the_sender r) s z count
  pub word : slice_index z.registers 11 ≡ slice_index s.registers 11
  pub head : ℕ
  pub copy : ℕ
  pub seen : ℕ
  pub among : head + 4 ≤ 4 * r.size
  pub aligned : head % 4 ≡ 0
  pub accesses : did ≡ send_accesses k r (slice_index s.registers 11) head copy seen
  pub answer : slice_index z.registers 10 ≡ (if sees_full r.copy k r head copy seen then 0 else 1)

-- a call that receives: if it returns 1, a1 is the word that it loaded from the slot
pub record ReceiveEffect (k : Kind) (r : RingBuffer) (s z : HartState) (count : ℕ) (did : List Access) : Type 0 where
  pub returns : Returns (longest the_receiver r) s z count
  pub tail : ℕ
  pub seen : ℕ
  pub among : tail + 4 ≤ 4 * r.size
  pub aligned : tail % 4 ≡ 0
  pub found : IsFound k seen (slice_index z.registers 11)
  pub accesses : did ≡ receive_accesses k r (slice_index z.registers 11) tail seen
  pub answer : slice_index z.registers 10 ≡ (if says_empty k tail seen then 0 else 1)

-- ---- a call that may be cut at any point

-- no byte of an access lies outside the block
abbrev pub StaysInBlock : RingBuffer → Access → Type 0
StaysInBlock r (load a width v) = (r.first ≤ a) × (a + width ≤ r.end)
StaysInBlock r (store w) = (r.first ≤ w.addr) × (w.addr + w.width ≤ r.end)
StaysInBlock r (exchange a old new) = (r.first ≤ a) × (a + 4 ≤ r.end)
StaysInBlock r other = Unit {0}

-- a send of the word in a1 that has come from state s to state z: its accesses are the first of those of a whole call, `left` those that
-- would follow if it read this. It has kept a1, and the other registers
pub record SendSoFar (k : Kind) (r : RingBuffer) (s z : HartState) (did : List Access) : Type 0 where
  pub registers : KeepsOtherRegisters s.registers z.registers
  pub word : slice_index z.registers 11 ≡ slice_index s.registers 11
  pub head : ℕ
  pub copy : ℕ
  pub seen : ℕ
  pub among : head + 4 ≤ 4 * r.size
  pub aligned : head % 4 ≡ 0
  pub left : List Access
  pub accesses : did ++ left ≡ send_accesses k r (slice_index s.registers 11) head copy seen
  pub inside : All (StaysInBlock r) did

-- the same of a receive
pub record ReceiveSoFar (k : Kind) (r : RingBuffer) (s z : HartState) (did : List Access) : Type 0 where
  pub registers : KeepsOtherRegisters s.registers z.registers
  pub word : ℕ
  pub tail : ℕ
  pub seen : ℕ
  pub among : tail + 4 ≤ 4 * r.size
  pub aligned : tail % 4 ≡ 0
  pub found : IsFound k seen word
  pub left : List Access
  pub accesses : did ++ left ≡ receive_accesses k r word tail seen
  pub inside : All (StaysInBlock r) did

-- ---- a call that returns 0

-- at an entry e of the call the sender looks for room at its offset and sees none, and after the entries before e the queue is
-- full: as many words as it holds were given and no call returned them, except for the slots that the receiver's pending stores hold back
pub record FoundFull (M : ℕ) (o : OpeningValue) (q : SpscQueue) (before done call : List Entry) : Type 0 where
  pub part : List Entry
  pub entry : Entry
  pub rest : List Entry
  pub offset : ℕ
  pub value : ℕ
  pub is : call ≡ part ++ entry ∷ rest
  pub mine : hart_of entry ≡ q.sender
  pub loads : access_of entry ≡ load (room_at q.block.kind (buffer q) offset) 4 value
  pub says : says_full q.block.kind (buffer q) offset value ≡ true
  pub full : length (received_words M o q before (done ++ part)) + capacity (buffer q)
      ≤ length (given_words M o q before (done ++ part)) + unreleased (buffer q) (pending q.receiver (before ++ (done ++ part)))

-- at an entry e of the call the receiver looks for a word at its offset and sees none, and after the entries before e the queue is
-- empty: each word that was given was returned, except for those that the sender's pending stores hold back
pub record FoundEmpty (M : ℕ) (o : OpeningValue) (q : SpscQueue) (before done call : List Entry) : Type 0 where
  pub part : List Entry
  pub entry : Entry
  pub rest : List Entry
  pub offset : ℕ
  pub value : ℕ
  pub is : call ≡ part ++ entry ∷ rest
  pub mine : hart_of entry ≡ q.receiver
  pub loads : access_of entry ≡ load (watched_address q.block.kind (buffer q) offset) 4 value
  pub says : says_empty q.block.kind offset value ≡ true
  pub empty : length (given_words M o q before (done ++ part))
      ≤ length (received_words M o q before (done ++ part)) + unpublished (buffer q) (pending q.sender (before ++ (done ++ part)))
