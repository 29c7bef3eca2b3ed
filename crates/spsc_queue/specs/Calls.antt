-- Calls of the functions by code that does as it likes around them: where a block lies, when a hart is in a call, which
-- words its calls completed, and all that a caller owes.
use Rattle.std.specs.Prelude.{ℕ, ◌≡◌, ◌≢◌, ◌+◌, ◌-◌, ◌*◌, ◌/◌, ◌%◌, ◌^◌, ◌<◌, ◌≤◌, ◌==◌, ◌&&◌, ◌||◌, if◌then◌else◌, Bool, true, false, Option, None, Some}
use Rattle.std.specs.Prelude.{List, [], ◌∷◌, ◌++◌, length, slice_index}
use Rattle.std.specs.List.{slice_get}
use Rattle.hart.specs.State.{HartState}
use Rattle.hart.specs.Steps.{advanced}
use Rattle.step_machine.specs.declared.events.Entry.{Entry}
use Rattle.step_machine.specs.Access.{access_of}
use Rattle.step_machine.specs.History.{HartOpeningValue, OpeningValue, history_of}
use Rattle.step_machine.specs.Entries.{hart_of, is_land, is_own}
use Rattle.step_machine.specs.Paths.{number_read, state_of}
use Rattle.step_machine.specs.Legal.{WellFormed}
use Rattle.spsc_queue.specs.RingBuffers.{Kind, lamport, fastforward, RingBuffer, waiting_words, IsQuiescent}
use Rattle.spsc_queue.specs.Protocol.{WritesNothingTo, IsSendable}
use Rattle.rv_decode.specs.Listings.{Listed, words_of}
use Rattle.spsc_queue.specs.Listings.{try_send, try_receive}
use Rattle.spsc_queue.specs.Cached.{cached_send}
use Rattle.spsc_queue.specs.FastForward.{fastforward_send, fastforward_receive}
pub use Rattle.queue_parties.specs.Parties.{Party, the_sender, the_receiver}

-- a block of memory: which kind of queue it is, and whether Lamport's sender keeps a copy of the tail; its base, how many slots it has,
-- at which slot the receiver's index stands, and how many words wait in it. The sender's index lies at its base, the copy 4 bytes on,
-- the receiver's index 64 bytes on, the slots 128 bytes on
pub record Block : Type 0 where
  pub kind : Kind
  pub caches : Bool
  pub base : ℕ
  pub size : ℕ
  pub start : ℕ
  pub begins_with : ℕ

pub record IsBlock (M : ℕ) (k : Block) : Type 0 where
  pub aligned : k.base % 4 ≡ 0
  pub some_slots : 1 ≤ k.size
  pub inside : k.base + 128 + 4 * k.size ≤ 4 * M
  pub small : 4 * M < 2 ^ 32

-- a queue in use: its block, the harts that send and receive, and the lines of their codes at which their copies of the
-- functions begin
pub record SpscQueue : Type 0 where
  pub block : Block
  pub sender : ℕ
  pub receiver : ℕ
  pub send_line : ℕ
  pub receive_line : ℕ

-- where the sender's copy of the tail lies
abbrev pub copy_in : Kind → (caches : Bool) → (base : ℕ) → Option ℕ
copy_in lamport true base = Some (base + 4)
copy_in lamport false base = None
copy_in fastforward caches base = None

abbrev pub ring_at : Block → (sender receiver : ℕ) → RingBuffer
ring_at k sender receiver = record {
  kind = k.kind;
  start = k.start;
  begins_with = k.begins_with;
  sender = sender;
  receiver = receiver;
  first = k.base;
  end = k.base + 128 + 4 * k.size;
  head = k.base;
  tail = k.base + 64;
  slots = k.base + 128;
  size = k.size;
  copy = copy_in k.kind k.caches k.base;
}

abbrev pub buffer : SpscQueue → RingBuffer
buffer q = ring_at q.block q.sender q.receiver

-- this block after n words went through it, and others wait in it
abbrev pub moved_on : Block → (n waiting : ℕ) → Block
moved_on k n waiting = record k { start = k.start + n; begins_with = waiting }

-- a party's hart
abbrev pub party_hart : SpscQueue → Party → ℕ
party_hart q the_sender = q.sender
party_hart q the_receiver = q.receiver

-- the line of its code at which its copy of the function begins
abbrev pub party_line : SpscQueue → Party → ℕ
party_line q the_sender = q.send_line
party_line q the_receiver = q.receive_line

-- the function of each kind that a party calls. A sender that keeps a copy of the tail has its own
abbrev pub lamport_send : (caches : Bool) → List Listed
lamport_send false = try_send
lamport_send true = cached_send

abbrev pub listing_of : Kind → (caches : Bool) → Party → List Listed
listing_of lamport caches the_sender = lamport_send caches
listing_of lamport caches the_receiver = try_receive
listing_of fastforward caches the_sender = fastforward_send
listing_of fastforward caches the_receiver = fastforward_receive

-- a listing stands in this code, from line n on
pub record StandsIn (code : List ℕ) (n : ℕ) (listing : List Listed) : Type 0 where
  pub front : List ℕ
  pub back : List ℕ
  pub is : code ≡ front ++ (words_of listing ++ back)
  pub place : length front ≡ n
  pub small : 4 * length code < 2 ^ 32

-- hart h opens with this listing in its code, and with 32 registers
pub record HasFunction (o : OpeningValue) (h n : ℕ) (listing : List Listed) : Type 0 where
  pub opens : HartOpeningValue
  pub is : slice_get o.harts h ≡ Some opens
  pub code : StandsIn opens.code n listing
  pub registers : length opens.registers ≡ 32

-- ---- when a hart is in a call

-- it enters the function at line n for this block. A call for another block is no call of this queue
abbrev pub enters : (n : ℕ) → Block → HartState → Bool
enters n k s = (s.pc == 4 * n) && (slice_index s.registers 10 == k.base)

-- its next instruction is one of the function's two returns
abbrev pub returns_at : (n : ℕ) → HartState → Bool
returns_at n s = (s.pc == 4 * (n + 10)) || (s.pc == 4 * (n + 12))

-- whether it is in a call after it went from a state to the next one, where it was in one or not
abbrev pub is_in_call_after : (n : ℕ) → Block → Bool → (s z : HartState) → Bool
is_in_call_after n k true s z = if returns_at n s then enters n k z else true
is_in_call_after n k false s z = enters n k z

abbrev pub is_in_call_by : (n : ℕ) → Block → Bool → Option HartState → (v : ℕ) → Bool
is_in_call_by n k b None v = b
is_in_call_by n k b (Some s) v = is_in_call_after n k b s (advanced s v)

abbrev pub is_in_call_with : (M : ℕ) → OpeningValue → (h n : ℕ) → Block → Bool → List Entry → Entry → Bool
is_in_call_with M o h n k b front e = if is_own h e then is_in_call_by n k b (state_of M (history_of o front) h) (number_read e) else b

abbrev pub is_in_call_from : (M : ℕ) → OpeningValue → (h n : ℕ) → Block → Bool → (front es : List Entry) → Bool
is_in_call_from M o h n k b front [] = b
is_in_call_from M o h n k b front (e ∷ es) = is_in_call_from M o h n k (is_in_call_with M o h n k b front e) (front ++ e ∷ []) es

-- whether hart h is in a call of the function at line n for this block, after these entries, where it was in none before
abbrev pub is_in_call : (M : ℕ) → OpeningValue → (h n : ℕ) → Block → (before es : List Entry) → Bool
is_in_call M o h n k before es = is_in_call_from M o h n k false before es

abbrev pub is_sender_in_call : (M : ℕ) → OpeningValue → SpscQueue → (before es : List Entry) → Bool
is_sender_in_call M o q before es = is_in_call M o q.sender q.send_line q.block before es

abbrev pub is_receiver_in_call : (M : ℕ) → OpeningValue → SpscQueue → (before es : List Entry) → Bool
is_receiver_in_call M o q before es = is_in_call M o q.receiver q.receive_line q.block before es

-- ---- which words its calls completed

-- the word in a1 where the hart is about to return from a call with a0 = 1: of try_send the word that was sent, of
-- try_receive the word that was received
abbrev pub completed_at : (n : ℕ) → Bool → HartState → List ℕ
completed_at n b s = if b && returns_at n s && (slice_index s.registers 10 == 1) then slice_index s.registers 11 ∷ [] else []

abbrev pub completed_in : (n : ℕ) → Bool → Option HartState → List ℕ
completed_in n b None = []
completed_in n b (Some s) = completed_at n b s

abbrev pub completed_by_entry : (M : ℕ) → OpeningValue → (h n : ℕ) → Bool → List Entry → Entry → List ℕ
completed_by_entry M o h n b front e = if is_own h e then completed_in n b (state_of M (history_of o front) h) else []

abbrev pub completed_words_from : (M : ℕ) → OpeningValue → (h n : ℕ) → Block → Bool → (front es : List Entry) → List ℕ
completed_words_from M o h n k b front [] = []
completed_words_from M o h n k b front (e ∷ es) =
    completed_by_entry M o h n b front e ++ completed_words_from M o h n k (is_in_call_with M o h n k b front e) (front ++ e ∷ []) es

abbrev pub completed_words : (M : ℕ) → OpeningValue → (h n : ℕ) → Block → (before es : List Entry) → List ℕ
completed_words M o h n k before es = completed_words_from M o h n k false before es

-- the words that calls of try_send sent, and those that calls of try_receive returned, in order
abbrev pub sent_words : (M : ℕ) → OpeningValue → SpscQueue → (before es : List Entry) → List ℕ
sent_words M o q before es = completed_words M o q.sender q.send_line q.block before es

abbrev pub received_words : (M : ℕ) → OpeningValue → SpscQueue → (before es : List Entry) → List ℕ
received_words M o q before es = completed_words M o q.receiver q.receive_line q.block before es

-- the words that there were to receive: those that waited where the run began, and then those that were sent
abbrev pub given_words : (M : ℕ) → OpeningValue → SpscQueue → (before es : List Entry) → List ℕ
given_words M o q before es = waiting_words (buffer q) o before ++ sent_words M o q before es

-- the block after these entries, in which the words wait that were given and not received
abbrev pub block_after : (M : ℕ) → OpeningValue → SpscQueue → (before es : List Entry) → Block
block_after M o q before es = moved_on q.block (length (received_words M o q before es))
    (length (given_words M o q before es) - length (received_words M o q before es))

-- ---- what a caller owes

-- the arguments beside the block: the bytes of the slots, a word, which may be sent if it is, and a return address that isn't
-- the function's entry
abbrev pub MayPass : Party → Kind → ℕ → Type 0
MayPass the_sender k w = IsSendable k w
MayPass the_receiver k w = Unit {0}

pub record HasArguments (p : Party) (n : ℕ) (k : Block) (s : HartState) : Type 0 where
  pub bytes : slice_index s.registers 12 ≡ 4 * k.size
  pub word : slice_index s.registers 11 < 2 ^ 32
  pub sendable : MayPass p k.kind (slice_index s.registers 11)
  pub back : slice_index s.registers 1 / 2 * 2 ≢ 4 * n
  pub back_aligned : slice_index s.registers 1 / 2 * 2 % 4 ≡ 0
  pub back_small : slice_index s.registers 1 < 2 ^ 32

-- what a party owes at an entry e of its own hart, which comes after done, where it is in no call: it writes nothing to the
-- block, and if it enters the function for this block it does so with arguments. What it loads is free, and so is where it
-- jumps
abbrev pub PartyObligation : (M : ℕ) → OpeningValue → SpscQueue → Party → (before done : List Entry) → Entry → Type 0
PartyObligation M o q p before done e = hart_of e ≡ party_hart q p → is_land e ≡ false
    → (s : HartState) → state_of M (history_of o (before ++ done)) (party_hart q p) ≡ Some s
    → is_in_call M o (party_hart q p) (party_line q p) q.block before done ≡ false
    → WritesNothingTo (buffer q) (access_of e)
    × (enters (party_line q p) q.block (advanced s (number_read e)) ≡ true → HasArguments p (party_line q p) q.block (advanced s (number_read e)))

-- all that is owed at an entry e, which comes after done. Other harts write nothing to the block
pub record CallerObligation (M : ℕ) (o : OpeningValue) (q : SpscQueue) (before done : List Entry) (e : Entry) : Type 0 where
  pub sender : PartyObligation M o q the_sender before done e
  pub receiver : PartyObligation M o q the_receiver before done e
  pub others : hart_of e ≢ q.sender → hart_of e ≢ q.receiver → WritesNothingTo (buffer q) (access_of e)

-- a run of two harts that have the functions in their codes, from where the block is at rest
pub record SharesQueue (B M : ℕ) (o : OpeningValue) (q : SpscQueue) (before es : List Entry) : Type 0 where
  pub block : IsBlock M q.block
  pub parties : q.sender ≢ q.receiver
  pub run : WellFormed B M (history_of o (before ++ es))
  pub rest : IsQuiescent (buffer q) o before
  pub sends : HasFunction o q.sender q.send_line (listing_of q.block.kind q.block.caches the_sender)
  pub receives : HasFunction o q.receiver q.receive_line (listing_of q.block.kind q.block.caches the_receiver)

-- a run of two harts that call the functions for the block, and each of whose entries keeps what is owed. Where it begins both
-- count as in no call
pub record UsesAsSpscQueue (B M : ℕ) (o : OpeningValue) (q : SpscQueue) (before es : List Entry) : Type 0 where
  pub shares : SharesQueue B M o q before es
  pub owed : (done : List Entry) (e : Entry) (more : List Entry) → es ≡ done ++ e ∷ more → CallerObligation M o q before done e
