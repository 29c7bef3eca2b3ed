-- What callers owe and don't keep: where the queue begins, and the first such violation among the entries of a run.
use Rattle.std.specs.Prelude.{ℕ, ◌≡◌, ◌≢◌, ◌⊎◌, ◌+◌, ◌*◌, ◌/◌, ◌%◌, ◌<◌, ◌==◌, ◌||◌, not, nat_lt, Bool, true, false, if◌then◌else◌, List, [], ◌∷◌, ◌++◌}
use Rattle.std.specs.Prelude.{Option, None, Some, option_map, slice_index}
use Rattle.std.specs.Option.{option_or}
use Rattle.memory.specs.declared.writes.Write.{Write}
use Rattle.memory.specs.Writes.{write}
use Rattle.hart.specs.State.{HartState}
use Rattle.step_machine.specs.declared.events.Entry.{Entry}
use Rattle.step_machine.specs.Access.{Access, store, exchange, access_of}
use Rattle.step_machine.specs.History.{OpeningValue, history_of}
use Rattle.step_machine.specs.Entries.{hart_of, is_land, memory_word}
use Rattle.step_machine.specs.Paths.{state_of}
use Rattle.rv_decode.specs.Listings.{Listed}
use Rattle.spsc_queue.specs.RingBuffers.{RingBuffer, fastforward, overlaps}
use Rattle.spsc_queue.specs.Calls.{Block, SpscQueue, Party, the_sender, the_receiver, IsBlock, HasFunction, buffer}
use Rattle.spsc_queue.specs.Calls.{enters, is_sender_in_call, is_receiver_in_call}
use Rattle.spsc_queue.specs.Obligations.{may_pass, has_arguments}
use Rattle.callers.specs.Queues.{kind_of, caches_tail, block_at, slots_after, start_in, waiting_in, sends_by, receives_by, HasNoCopy}
use Rattle.callers.specs.declared.queue.Queue.{Queue}
use Rattle.callers.specs.declared.violations.CallerViolation.{CallerViolation}
use Rattle.callers.specs.declared.violations.CallerViolation.TheVariants as violation

-- ---- where the queue begins

-- the word is the offset of a slot
abbrev pub IsOffset : Queue → (w : ℕ) → Type 0
IsOffset q w = (w % 4 ≡ 0) × (w < 4 * q.slots)

-- whether a word waits in slot j where the queue begins
abbrev pub waits_in : OpeningValue → Queue → (j : ℕ) → Bool
waits_in o q j = nat_lt (slots_after q.slots (start_in o q) j) (waiting_in o q)

-- the address is that of a slot in which a word waits, or in which none does
abbrev pub IsSlot : OpeningValue → Queue → (waits : Bool) → (a : ℕ) → Type 0
IsSlot o q waits a = (j : ℕ) × (j < q.slots) × (a ≡ q.base + 128 + 4 * j) × (waits_in o q j ≡ waits)

-- the word is an offset that the tail can have had when the words that wait were sent: its own, or that of a slot past the head
abbrev pub IsOldTail : OpeningValue → Queue → (w : ℕ) → Type 0
IsOldTail o q w = IsOffset q w × ((w / 4 ≡ start_in o q) ⊎ (waiting_in o q < slots_after q.slots (start_in o q) (w / 4)))

-- this is owed at the opening: what the violation says of it is so
abbrev pub IsOpeningViolation : (M : ℕ) → OpeningValue → Queue → CallerViolation → Type 0
IsOpeningViolation M o q violation.NoBlock = IsBlock M (block_at q 0 0) → ⊥
IsOpeningViolation M o q (violation.OneParty h) = (h ≡ q.sender) × (h ≡ q.receiver)
IsOpeningViolation M o q (violation.NoSend k h) = (k ≡ q.kind) × (h ≡ q.sender) × HasNoCopy o h (sends_by k)
IsOpeningViolation M o q (violation.NoReceive k h) = (k ≡ q.kind) × (h ≡ q.receiver) × HasNoCopy o h (receives_by k)
IsOpeningViolation M o q (violation.NoOffset a w) = ((a ≡ q.base) ⊎ (a ≡ q.base + 64)) × (memory_word o [] a ≡ w) × (IsOffset q w → ⊥)
IsOpeningViolation M o q (violation.NoCopy a w) = (caches_tail q.kind ≡ true) × (a ≡ q.base + 4) × (memory_word o [] a ≡ w) × (IsOldTail o q w → ⊥)
IsOpeningViolation M o q (violation.NotFree a w) = (kind_of q.kind ≡ fastforward) × IsSlot o q false a × (memory_word o [] a ≡ w) × (w ≢ 0)
IsOpeningViolation M o q (violation.NoWord a) = (kind_of q.kind ≡ fastforward) × IsSlot o q true a × (memory_word o [] a ≡ 0)
IsOpeningViolation M o q (violation.Wrote h pc a) = ⊥
IsOpeningViolation M o q (violation.PassedBytes h bytes) = ⊥
IsOpeningViolation M o q (violation.PassedWord h) = ⊥
IsOpeningViolation M o q (violation.PassedReturn h back) = ⊥

-- ---- in which order that is asked

-- hart h has this function somewhere in its code
abbrev pub HasCopy : OpeningValue → (h : ℕ) → List Listed → Type 0
HasCopy o h listing = (n : ℕ) × HasFunction o h n listing

pub record HasFunctions (M : ℕ) (o : OpeningValue) (q : Queue) : Type 0 where
  pub block : IsBlock M (block_at q 0 0)
  pub parties : q.sender ≢ q.receiver
  pub sends : HasCopy o q.sender (sends_by q.kind)
  pub receives : HasCopy o q.receiver (receives_by q.kind)

pub record HasIndices (M : ℕ) (o : OpeningValue) (q : Queue) : Type 0 where
  pub functions : HasFunctions M o q
  pub head : IsOffset q (memory_word o [] q.base)
  pub tail : IsOffset q (memory_word o [] (q.base + 64))

-- the lower slots hold 0 just where no word waits
abbrev pub AreAsOwedBelow : OpeningValue → Queue → (a : ℕ) → Type 0
AreAsOwedBelow o q a = (j : ℕ) → q.base + 128 + 4 * j < a → (memory_word o [] (q.base + 128 + 4 * j) == 0) ≡ not (waits_in o q j)

-- all that is asked before it is as it is owed
abbrev pub IsKeptBefore : (M : ℕ) → OpeningValue → Queue → CallerViolation → Type 0
IsKeptBefore M o q violation.NoBlock = Unit {0}
IsKeptBefore M o q (violation.OneParty h) = IsBlock M (block_at q 0 0)
IsKeptBefore M o q (violation.NoSend k h) = IsBlock M (block_at q 0 0) × (q.sender ≢ q.receiver)
IsKeptBefore M o q (violation.NoReceive k h) = IsBlock M (block_at q 0 0) × (q.sender ≢ q.receiver) × HasCopy o q.sender (sends_by q.kind)
IsKeptBefore M o q (violation.NoOffset a w) = HasFunctions M o q × (a ≡ q.base + 64 → IsOffset q (memory_word o [] q.base))
IsKeptBefore M o q (violation.NoCopy a w) = HasIndices M o q
IsKeptBefore M o q (violation.NotFree a w) = HasIndices M o q × AreAsOwedBelow o q a
IsKeptBefore M o q (violation.NoWord a) = HasIndices M o q × AreAsOwedBelow o q a
IsKeptBefore M o q other = Unit {0}

abbrev pub IsFirstOpeningViolation : (M : ℕ) → OpeningValue → Queue → CallerViolation → Type 0
IsFirstOpeningViolation M o q d = IsOpeningViolation M o q d × IsKeptBefore M o q d

-- ---- from then on

-- whether hart h is in a call of its function for this queue, after these entries
abbrev pub is_in_its_call : (M : ℕ) → OpeningValue → SpscQueue → List Entry → (h : ℕ) → Bool
is_in_its_call M o q es h =
    if h == q.sender then is_sender_in_call M o q [] es else (if h == q.receiver then is_receiver_in_call M o q [] es else false)

-- where a write begins that meets the block
abbrev pub met_by : RingBuffer → Write → Option ℕ
met_by r w = if overlaps r w then Some w.addr else None

-- where an access writes that writes to the block
abbrev pub written_at : RingBuffer → Access → Option ℕ
written_at r (store w) = met_by r w
written_at r (exchange a old new) = met_by r (write a 4 new)
written_at r other = None

-- of hart h that enters a party's function, which begins at line n, in this state: it passes another a2 than the bytes of
-- the slots, or a word that may not be sent, or an ra that is no return address
abbrev pub arguments_violation : Party → (h n : ℕ) → Block → HartState → Option CallerViolation
arguments_violation p h n k z = if slice_index z.registers 12 == 4 * k.size
    then (if may_pass p k.kind (slice_index z.registers 11)
    then (if has_arguments p n k z then None else Some (violation.PassedReturn h (slice_index z.registers 1)))
    else Some (violation.PassedWord h))
    else Some (violation.PassedBytes h (slice_index z.registers 12))

-- of hart h that stands in this state
abbrev pub entering_violation : Party → (h n : ℕ) → Block → Option HartState → Option CallerViolation
entering_violation p h n k None = None
entering_violation p h n k (Some z) = if enters n k z then arguments_violation p h n k z else None

-- the same of whichever party the hart is
abbrev pub party_violation : SpscQueue → (h : ℕ) → Option HartState → Option CallerViolation
party_violation q h z = if h == q.sender then entering_violation the_sender h q.send_line q.block z
    else (if h == q.receiver then entering_violation the_receiver h q.receive_line q.block z else None)

abbrev pub pc_in : Option HartState → ℕ
pc_in None = 0
pc_in (Some s) = s.pc

-- the violation of a hart in no call whose entry leads from one state to the next: it writes to the block, or enters its function
-- with other arguments than it owes
abbrev pub idle_violation : SpscQueue → Entry → (before after : Option HartState) → Option CallerViolation
idle_violation q e before after = option_or (option_map (violation.Wrote (hart_of e) (pc_in before)) (written_at (buffer q) (access_of e)))
    (party_violation q (hart_of e) after)

-- what is owed at entry e, which comes after these entries. A landing owes nothing, nor does a hart within its call
abbrev pub violation_of : (M : ℕ) → OpeningValue → SpscQueue → (front : List Entry) → Entry → Option CallerViolation
violation_of M o q front e = if is_land e || is_in_its_call M o q front (hart_of e) then None
    else idle_violation q e (state_of M (history_of o front) (hart_of e)) (state_of M (history_of o (front ++ e ∷ [])) (hart_of e))

-- the first violation among entries, after the entries before them
abbrev pub violation_after : (M : ℕ) → OpeningValue → SpscQueue → (front es : List Entry) → Option CallerViolation
violation_after M o q front [] = None
violation_after M o q front (e ∷ es) = option_or (violation_of M o q front e) (violation_after M o q (front ++ e ∷ []) es)

abbrev pub first_caller_violation : (M : ℕ) → OpeningValue → SpscQueue → List Entry → Option CallerViolation
first_caller_violation M o q es = violation_after M o q [] es
