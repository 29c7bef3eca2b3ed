-- What holds of one block of a FastForward ring in every history. Nothing here has to be believed: the laws
-- of the ring are proved by it.
pub mod Sender
use Rattle.std.proofs.Common.{ℕ, ◌+◌, ◌<◌, ◌≤◌, ◌≡◌, length, ◌==◌, ◌⊎◌, ◌&&◌, List, [], ◌∷◌}
use Rattle.std.specs.Prelude.{slice_index}
use Rattle.poll_close.specs.Invariant.Blocks.{SenderBlock, offset, slot, singles, pairs, slot_store, tail_store}
use Rattle.poll_close.specs.Invariant.BlockInvariant as meaning
use Rattle.poll_close.specs.Invariant.Outlines.{OutlineRow}
use Rattle.poll_close.specs.Invariant.BlockInvariant.{Flag, DistanceToReport, Near, Visit, between}
use Rattle.poll_close.specs.Invariant.HartStates.{ReceiverRegisters}

-- the sender's own: the words that it got from its inbox; the slots and marks that it stored; the nulls
-- that had landed when it last read a slot
pub record Sent : Type 0 where
  pub asked : ℕ
  pub stored : ℕ
  pub marked : ℕ
  pub seen : ℕ

-- the receiver's own: what it has seen are slots, and the ring counts the nulls that it stored too
abbrev pub ReceiverCounts : Type 0
ReceiverCounts = meaning.ReceiverCounts ℕ

abbrev pub nulls : ReceiverCounts → ℕ
nulls n = n.own

-- how many stores of each kind have landed: the sender's slots and marks, and the receiver's nulls, tails
-- and done words
pub record Landed : Type 0 where
  pub slots : ℕ
  pub mark : ℕ
  pub nulls : ℕ
  pub tails : ℕ
  pub done : ℕ

abbrev pub Counters : Type 0
Counters = meaning.Counters Sent ℕ Landed

-- each hart's stores, made and landed
abbrev pub sent : Sent → ℕ
sent n = n.stored + n.marked

abbrev pub gone : Landed → ℕ
gone n = n.slots + n.mark

abbrev pub taken_so_far : ReceiverCounts → ℕ
taken_so_far n = nulls n + n.tails + n.done

abbrev pub freed : Landed → ℕ
freed n = n.nulls + n.tails + n.done

-- a word is stored where the null before it in the slot has landed, and so at most one store to a slot
-- is pending in both buffers
pub record CounterInvariant (k : SenderBlock) (n : Counters) : Type 0 where
  pub seen_nulls : n.sender.seen ≤ n.landed.nulls
  pub seen_slots : n.receiver.seen ≤ n.landed.slots
  pub seen_mark : n.receiver.mark ≤ n.landed.mark
  pub nulls_landed : n.landed.nulls ≤ nulls n.receiver
  pub nulls_slots : nulls n.receiver ≤ n.landed.slots
  pub slots_landed : n.landed.slots ≤ n.sender.stored
  pub room : n.sender.stored ≤ n.landed.nulls + k.size
  pub stored_all : n.sender.stored ≤ length k.list
  pub tails_nulls : n.receiver.tails ≤ nulls n.receiver
  pub nulls_tails : nulls n.receiver ≤ n.receiver.tails + 1
  pub tail_after : n.landed.tails ≤ n.landed.nulls
  pub null_before : n.landed.nulls ≤ n.landed.tails + 1
  pub tails_landed : n.landed.tails ≤ n.receiver.tails
  pub marked_one : n.sender.marked ≤ 1
  pub mark_landed : n.landed.mark ≤ n.sender.marked
  pub marked_all : 0 < n.sender.marked → n.sender.stored ≡ length k.list
  pub mark_all : 0 < n.landed.mark → n.landed.slots ≡ length k.list
  pub shut_done : n.receiver.closings ≤ n.receiver.done
  pub done_one : n.receiver.done ≤ 1
  pub done_landed : n.landed.done ≤ n.receiver.done
  pub done_all : 0 < n.receiver.done → n.receiver.tails ≡ length k.list
  pub all_landed : 0 < n.landed.done → n.landed.tails ≡ length k.list

-- the words of the block in memory: its slots hold the words that are not emptied, and 0 from there
-- round to them
pub record Words (k : SenderBlock) (n : Landed) (word : ℕ → ℕ) : Type 0 where
  pub mark : word (k.base + 4) ≡ n.mark
  pub tail : word (k.base + 8) ≡ offset k n.tails
  pub done : word (k.base + 12) ≡ n.done
  pub full : (j : ℕ) → n.nulls ≤ j → j < n.slots → word (slot k.size k.base j) ≡ slice_index k.list j
  pub empty : (j : ℕ) → n.slots ≤ j → j < n.nulls + k.size → word (slot k.size k.base j) ≡ 0

-- ---- the receiver's rows at the last four of its lines between

-- each null has its tail
abbrev pub Level : ReceiverCounts → Type 0
Level n = nulls n ≡ n.tails

-- the null of a word is stored, and its tail is not
abbrev pub Filled : ReceiverCounts → Type 0
Filled n = nulls n ≡ n.tails + 1

-- the next word had landed, and it is in x11
abbrev pub Loaded : SenderBlock → ReceiverCounts → ℕ → Type 0
Loaded k n x11 = (n.tails < n.seen) × (x11 ≡ slice_index k.list n.tails)

-- its slot held 0; where the mark was there before, all is taken
abbrev pub Empty : SenderBlock → ReceiverCounts → ℕ → ℕ → Type 0
Empty k n x11 x30 = (x11 ≡ 0) × ((x30 ≡ 0) ⊎ (n.tails ≡ length k.list))

-- this visit may find nothing: its sender has ended, and the mark was not read; or nothing was found
abbrev pub rows : List (OutlineRow DistanceToReport (SenderBlock → ReceiverCounts → ReceiverRegisters → Type 0))
rows =
    between 0x18 (Visit (λ a x. (slice_index x 30 == 0) && a.ended) 15 18) (λ k n r. Flag n r.x30 × (r.x7 ≡ offset k n.tails)) ∷  -- add x28,x8,x7
    between 0x1C (Visit (λ a x. (slice_index x 30 == 0) && a.ended) 14 17)
    (λ k n r. Flag n r.x30 × (r.x7 ≡ offset k n.tails) × (r.x28 ≡ k.base + r.x7)) ∷  -- lw x11,16(x28)
    between 0x20 (Visit (λ a x. (slice_index x 30 == 0) && (slice_index x 11 == 0)) 13 16)
    (λ k n r. (Empty k n r.x11 r.x30 ⊎ Loaded k n r.x11) × (r.x7 ≡ offset k n.tails) × (r.x28 ≡ k.base + r.x7)) ∷  -- beq x11,x0,empty
    between 0x24 (Near 15) (λ k n r. Loaded k n r.x11 × (r.x7 ≡ offset k n.tails) × (r.x28 ≡ k.base + r.x7)) ∷  -- sw x0,16(x28)
    []

-- ---- all that a sender will ever store to its block, and all that the receiver will, in order

abbrev pub null_store : SenderBlock → ℕ → ℕ → ℕ × ℕ
null_store k j w = (slot k.size k.base j, 0)

-- each word into its slot; at the end the closed mark
abbrev pub sender_stores : SenderBlock → List (ℕ × ℕ)
sender_stores k = singles (slot_store k) (k.base + 4, 1) k.list

-- 0 into the slot of each word, then its tail; at the end the done word
abbrev pub receiver_stores : SenderBlock → List (ℕ × ℕ)
receiver_stores k = pairs (null_store k) (tail_store k) (k.base + 12, 1) k.list
