-- What holds of one block of Lamport's ring in every history. Nothing here has to be believed: the laws of
-- the ring are proved by it.
pub mod Sender
use Rattle.std.proofs.Common.{ℕ, ◌+◌, ◌<◌, ◌≤◌, ◌≡◌, length, List, ◌*◌, ◌%◌, ◌==◌, ◌⊎◌, ◌&&◌, [], ◌∷◌, Bool, Some}
use Rattle.std.specs.Prelude.{slice_index}
use Rattle.poll_close.specs.Invariant.Blocks.{SenderBlock, offset, slot, singles, pairs, slot_store, tail_store}
use Rattle.poll_close.specs.Invariant.BlockInvariant as meaning
use Rattle.poll_close.specs.Invariant.Outlines.{OutlineRow, Outline, SenderRow}
use Rattle.poll_close.specs.Invariant.BlockInvariant.{DistanceToReport, Near, Visit, between, BlockInvariant}
use Rattle.poll_close.specs.Invariant.HartStates.{ReceiverRegisters}
use Rattle.hart.specs.State.{HartState}
use Rattle.poll_close.specs.Waiting.{waits_at}
use Rattle.lamport_ring.specs.Listing.{ring_lines}

-- the sender's own: the words that it got from its inbox; the slots, heads and marks that it stored; the
-- tails that had landed when it last read one
pub record Sent : Type 0 where
  pub asked : ℕ
  pub stored : ℕ
  pub headed : ℕ
  pub marked : ℕ
  pub seen : ℕ

-- the receiver's own: what it has seen are heads
abbrev pub ReceiverCounts : Type 0
ReceiverCounts = meaning.ReceiverCounts (Unit {0})

-- how many stores of each kind have landed: the sender's slots, heads and marks, and the receiver's tails
-- and done words
pub record Landed : Type 0 where
  pub slots : ℕ
  pub heads : ℕ
  pub mark : ℕ
  pub tails : ℕ
  pub done : ℕ

abbrev pub Counters : Type 0
Counters = meaning.Counters Sent (Unit {0}) Landed

-- each hart's stores, made and landed
abbrev pub sent : Sent → ℕ
sent n = n.stored + n.headed + n.marked

abbrev pub gone : Landed → ℕ
gone n = n.slots + n.heads + n.mark

abbrev pub taken_so_far : ReceiverCounts → ℕ
taken_so_far n = n.tails + n.done

abbrev pub freed : Landed → ℕ
freed n = n.tails + n.done

pub record CounterInvariant (k : SenderBlock) (n : Counters) : Type 0 where
  pub seen_tails : n.sender.seen ≤ n.landed.tails
  pub seen_heads : n.receiver.seen ≤ n.landed.heads
  pub seen_mark : n.receiver.mark ≤ n.landed.mark
  pub tails_landed : n.landed.tails ≤ n.receiver.tails
  pub tails_seen : n.receiver.tails ≤ n.receiver.seen
  pub heads_slots : n.landed.heads ≤ n.landed.slots
  pub slots_heads : n.landed.slots ≤ n.landed.heads + 1
  pub slots_landed : n.landed.slots ≤ n.sender.stored
  pub heads_landed : n.landed.heads ≤ n.sender.headed
  pub headed_stored : n.sender.headed ≤ n.sender.stored
  pub stored_headed : n.sender.stored ≤ n.sender.headed + 1
  pub room : n.sender.stored + 1 ≤ n.landed.tails + k.size
  pub stored_all : n.sender.stored ≤ length k.list
  pub marked_one : n.sender.marked ≤ 1
  pub mark_landed : n.landed.mark ≤ n.sender.marked
  pub marked_all : 0 < n.sender.marked → n.sender.headed ≡ length k.list
  pub mark_all : 0 < n.landed.mark → n.landed.heads ≡ length k.list
  pub shut_done : n.receiver.closings ≤ n.receiver.done
  pub done_one : n.receiver.done ≤ 1
  pub done_landed : n.landed.done ≤ n.receiver.done
  pub done_all : 0 < n.receiver.done → n.receiver.tails ≡ length k.list
  pub all_landed : 0 < n.landed.done → n.landed.tails ≡ length k.list

-- the words of the block in memory: its slots hold the words that landed and that no tail in memory has
-- passed
pub record Words (k : SenderBlock) (n : Landed) (word : ℕ → ℕ) : Type 0 where
  pub head : word k.base ≡ offset k n.heads
  pub mark : word (k.base + 4) ≡ n.mark
  pub tail : word (k.base + 8) ≡ offset k n.tails
  pub done : word (k.base + 12) ≡ n.done
  pub slots : (j : ℕ) → n.tails ≤ j → j < n.slots → word (slot k.size k.base j) ≡ slice_index k.list j

-- ---- all that a sender will ever store to its block, and all that the receiver will, in order

abbrev pub head_store : SenderBlock → ℕ → ℕ → ℕ × ℕ
head_store k j w = (k.base, offset k (j + 1))

-- each word into its slot, then the head; at the end the closed mark
abbrev pub sender_stores : SenderBlock → List (ℕ × ℕ)
sender_stores k = pairs (slot_store k) (head_store k) (k.base + 4, 1) k.list

-- the tail of each word; at the end the done word
abbrev pub receiver_stores : SenderBlock → List (ℕ × ℕ)
receiver_stores k = singles (tail_store k) (k.base + 12, 1) k.list

-- ---- the receiver's rows at the last four of its lines between

-- the head that it read, the last one where the mark was there
pub record Headed (k : SenderBlock) (n : ReceiverCounts) (x6 x30 : ℕ) : Type 0 where
  pub is : x6 ≡ offset k n.seen
  pub last : (x30 ≡ 0) ⊎ (n.seen ≡ length k.list)

-- it has seen a word
abbrev pub More : ReceiverCounts → Type 0
More n = n.tails < n.seen

-- this visit may find nothing: the mark was not read, and the head that was read is the tail
abbrev pub rows : List (OutlineRow DistanceToReport (SenderBlock → ReceiverCounts → ReceiverRegisters → Type 0))
rows =
    between 0x18 (Visit (λ a x. (slice_index x 30 == 0) && (slice_index x 6 == 4 * (a.took % a.size))) 15 18) (λ k n r. Headed k n r.x6 r.x30) ∷  -- lw x7,8(x8)
    between 0x1C (Visit (λ a x. (slice_index x 30 == 0) && (slice_index x 6 == slice_index x 7)) 14 17)
    (λ k n r. Headed k n r.x6 r.x30 × (r.x7 ≡ offset k n.tails)) ∷  -- beq x6,x7,empty
    between 0x20 (Near 16) (λ k n r. More n × (r.x7 ≡ offset k n.tails)) ∷  -- add x28,x8,x7
    between 0x24 (Near 15) (λ k n r. More n × (r.x7 ≡ offset k n.tails) × (r.x28 ≡ k.base + r.x7)) ∷  -- lw x11,16(x28)
    []

-- ---- what holds at the lines of a sender, of its own numbers and registers

-- between two words: all that it asked for are stored, with their heads, and no mark
pub record Between (k : SenderBlock) (n : Sent) : Type 0 where
  pub taken : n.asked ≡ n.stored
  pub heads : n.headed ≡ n.stored
  pub unmarked : n.marked ≡ 0

-- it holds the next word, which it has not stored
pub record HoldsWord (k : SenderBlock) (n : Sent) (x5 x10 : ℕ) : Type 0 where
  pub taken : n.asked ≡ n.stored + 1
  pub heads : n.headed ≡ n.stored
  pub unmarked : n.marked ≡ 0
  pub within : n.stored < length k.list
  pub word : x10 ≡ slice_index k.list n.stored
  pub index : x5 ≡ offset k n.stored

pub record Asked (k : SenderBlock) (n : Sent) (x5 x10 x11 : ℕ) : Type 0 where
  pub heads : n.headed ≡ n.stored
  pub unmarked : n.marked ≡ 0
  pub index : x5 ≡ offset k n.stored
  pub answer :
      ((x11 ≡ 1) × (n.asked ≡ n.stored + 1) × (n.stored < length k.list) × (x10 ≡ slice_index k.list n.stored))
      ⊎ ((x11 ≡ 0) × (n.asked ≡ n.stored) × (n.stored ≡ length k.list))

-- the tail that was read
pub record HasRead (k : SenderBlock) (n : Sent) (x7 : ℕ) : Type 0 where
  pub near : n.stored + 1 ≤ n.seen + k.size
  pub is : x7 ≡ offset k n.seen

-- the slot after the next word's is free too: it has seen enough tails
abbrev pub Room : SenderBlock → Sent → Type 0
Room k n = n.stored + 2 ≤ n.seen + k.size

pub record StoredWord (k : SenderBlock) (n : Sent) (x6 : ℕ) : Type 0 where
  pub taken : n.asked ≡ n.stored
  pub heads : n.headed + 1 ≡ n.stored
  pub unmarked : n.marked ≡ 0
  pub next : x6 ≡ offset k n.stored

-- the whole list is stored, and the mark is made
pub record Marked (k : SenderBlock) (n : Sent) : Type 0 where
  pub taken : n.asked ≡ length k.list
  pub heads : n.headed ≡ length k.list
  pub mark : n.marked ≡ 1

-- ---- a sender's program over these blocks, and what it makes of them
-- Rings that differ in when their sender reads the tail differ in it alone: the numbers, the words of memory
-- and the receiver are the same.

-- its words, the row of each line, the offset after the last one, and that of the line that reads the tail
pub record Program : Type 1 where
  pub code : List ℕ
  pub rows : List (SenderRow Sent)
  pub over : ℕ
  pub reads : ℕ

abbrev pub outline_of : Program → Outline
outline_of p = record {
  Own = Sent;
  asked = λ n. n.asked;
  code = p.code;
  over = p.over;
  done = λ k n. Marked k n;
  rows = p.rows;
}

-- it is about to read the tail, and will find its ring full
abbrev pub waits : Program → HartState → (ℕ → ℕ) → Bool
waits p = waits_at p.reads 8 8 (Some 6)

-- the receiver takes a word out of its slot by its tail alone: it has no step of its own half done
abbrev pub blocks_of : Program → BlockInvariant
blocks_of p = record {
  sender = outline_of p;
  Own = Unit {0};
  Landed = Landed;
  marks = λ n. n.mark;
  CounterInvariant = CounterInvariant;
  Words = Words;
  sender_stores = sender_stores;
  receiver_stores = receiver_stores;
  sent = sent;
  gone = gone;
  taken = taken_so_far;
  freed = freed;
  Level = λ n. Unit {0};
  Filled = More;
  ring_lines = ring_lines;
  rows = rows;
  waits = waits p;
  Ready = λ k n. n.receiver.tails < n.landed.heads;
}
