-- What a ring defines for one block, and the receiver's outline: a row for each line, with how far it is from its
-- next report, and what holds there of the block that it visits.
use Rattle.std.proofs.Common.{ℕ, ◌+◌, ◌*◌, ◌≡◌, ◌⊎◌, ◌==◌, Bool, ◌&&◌, if◌then◌else◌, List, [], ◌∷◌, length}
use Rattle.std.specs.Prelude.{slice_index}
use Rattle.hart.specs.State.{HartState}
use Rattle.poll_close.specs.Listing.{RingLines}
use Rattle.poll_close.specs.Rankings.{Around, Ranking}
use Rattle.poll_close.specs.Invariant.Blocks.{SenderBlock, offset, window}
use Rattle.poll_close.specs.Invariant.Outlines.{OutlineRow, Outline, HoldsIn, rank_in, left_of}
use Rattle.poll_close.specs.Invariant.HartStates.{ReceiverRegisters}

-- the receiver's way from a line to its next report: n steps (Near); n to the end of this block, then the rest of
-- the round (Round); n to the end of the round, then a whole one (Over). A Visit may find nothing though a word is
-- there by now: then it is a Round, else a Near
pub data DistanceToReport : Type 0 where
  Near : ℕ → DistanceToReport
  Round : ℕ → DistanceToReport
  Over : ℕ → DistanceToReport
  Visit : (Around → List ℕ → Bool) → ℕ → ℕ → DistanceToReport

abbrev pub length_of : Around → List ℕ → DistanceToReport → ℕ
length_of a x (Near n) = n
length_of a x (Round n) = n + a.rest
length_of a x (Over n) = n + a.start
length_of a x (Visit stale n other) = if stale a x then n + a.rest else other

-- the receiver's own numbers of a block: the tails and done words that it stored; the words reported of the sender,
-- and whether it is reported closed; how much of the sender's had landed when it last read that, and the mark that
-- it read; and what else the ring counts
pub record ReceiverCounts (Own : Type 0) : Type 0 where
  pub tails : ℕ
  pub done : ℕ
  pub took : ℕ
  pub closings : ℕ
  pub seen : ℕ
  pub mark : ℕ
  pub own : Own

-- the numbers of a block, which say everything of its memory and of both harts' stores to it, by who
-- changes them: the sender's acts, the receiver's, and landings
pub record Counters (Sender Own Landed : Type 0) : Type 0 where
  pub sender : Sender
  pub receiver : ReceiverCounts Own
  pub landed : Landed

pub record BlockInvariant : Type 1 where
  -- the sender's outline, which has its own numbers
  pub sender : Outline
  -- what the ring counts of the receiver besides, and what it counts of landings
  pub Own : Type 0
  pub Landed : Type 0
  -- the closed marks that landed
  pub marks : Landed → ℕ
  -- the order of the numbers, and the words of memory by what has landed
  pub CounterInvariant : SenderBlock → Counters sender.Own Own Landed → Type 0
  pub Words : SenderBlock → Landed → (ℕ → ℕ) → Type 0
  -- all that the sender will ever store to this block, and all that the receiver will, in order; how many of these
  -- stores each has made, and how many have landed
  pub sender_stores : SenderBlock → List (ℕ × ℕ)
  pub receiver_stores : SenderBlock → List (ℕ × ℕ)
  pub sent : sender.Own → ℕ
  pub gone : Landed → ℕ
  pub taken : ReceiverCounts Own → ℕ
  pub freed : Landed → ℕ
  -- the receiver has no step of its own half done; it has taken a word out of its slot
  pub Level : ReceiverCounts Own → Type 0
  pub Filled : ReceiverCounts Own → Type 0
  -- the receiver's five lines between, and its rows at the last four of them
  pub ring_lines : RingLines
  pub rows : List (OutlineRow DistanceToReport (SenderBlock → ReceiverCounts Own → ReceiverRegisters → Type 0))
  -- the sender waits until the receiver acts; then a word is there for the receiver
  pub waits : HartState → (ℕ → ℕ) → Bool
  pub Ready : SenderBlock → Counters sender.Own Own Landed → Type 0

abbrev pub Count : BlockInvariant → Type 0
Count m = Counters m.sender.Own m.Own m.Landed

-- the pending stores of the sender, and those of the receiver to this block
abbrev pub unsent_of : (m : BlockInvariant) → SenderBlock → Count m → List (ℕ × ℕ)
unsent_of m k n = window (m.sender_stores k) (m.gone n.landed) (m.sent n.sender)

abbrev pub unread_of : (m : BlockInvariant) → SenderBlock → Count m → List (ℕ × ℕ)
unread_of m k n = window (m.receiver_stores k) (m.freed n.landed) (m.taken n.receiver)

-- outside of a report, all that was taken and closed is reported
pub record AllReported (m : BlockInvariant) (n : ReceiverCounts m.Own) : Type 0 where
  pub words : n.took ≡ n.tails
  pub closed : n.closings ≡ n.done
  pub level : m.Level n

pub record Visits (k : SenderBlock) (i x8 x22 : ℕ) : Type 0 where
  pub base : x8 ≡ k.base
  pub index : x22 ≡ i

-- it visits a block that is not done
pub record Opened (m : BlockInvariant) (k : SenderBlock) (i : ℕ) (n : ReceiverCounts m.Own) (x8 x22 : ℕ) : Type 0 where
  pub visits : Visits k i x8 x22
  pub quiet : AllReported m n
  pub open_yet : n.done ≡ 0

-- it has seen the mark where it read one
abbrev pub Flag : {Own : Type 0} → ReceiverCounts Own → ℕ → Type 0
Flag n x30 = (x30 ≡ 0) ⊎ ((x30 ≡ 1) × (n.mark ≡ 1))

-- the word is in x11, and its tail is not stored
pub record Has (m : BlockInvariant) (k : SenderBlock) (i : ℕ) (n : ReceiverCounts m.Own) (x8 x22 x11 : ℕ) : Type 0 where
  pub visits : Visits k i x8 x22
  pub ahead : n.took ≡ n.tails
  pub closed : n.closings ≡ n.done
  pub open_yet : n.done ≡ 0
  pub filled : m.Filled n
  pub word : x11 ≡ slice_index k.list n.tails

-- the tail is stored and the word not reported
pub record Taking (m : BlockInvariant) (k : SenderBlock) (i : ℕ) (n : ReceiverCounts m.Own) (x8 x22 x11 : ℕ) : Type 0 where
  pub visits : Visits k i x8 x22
  pub level : m.Level n
  pub ahead : n.tails ≡ n.took + 1
  pub closed : n.closings ≡ n.done
  pub open_yet : n.done ≡ 0
  pub word : x11 ≡ slice_index k.list n.took

-- the done word is stored and the closing not reported
pub record Closing (m : BlockInvariant) (k : SenderBlock) (i : ℕ) (n : ReceiverCounts m.Own) (x8 x22 : ℕ) : Type 0 where
  pub visits : Visits k i x8 x22
  pub level : m.Level n
  pub words : n.took ≡ n.tails
  pub all : n.tails ≡ length k.list
  pub done : n.done ≡ 1
  pub unclosed : n.closings ≡ 0

abbrev pub ReceiverRow : BlockInvariant → Type 1
ReceiverRow m = OutlineRow DistanceToReport (SenderBlock → ℕ → ReceiverCounts m.Own → ReceiverRegisters → Type 0)

abbrev pub receiver_row : {Own : Type 0} → ℕ → DistanceToReport → (SenderBlock → ℕ → Own → ReceiverRegisters → Type 0)
    → OutlineRow DistanceToReport (SenderBlock → ℕ → Own → ReceiverRegisters → Type 0)
receiver_row at rank holds = record { at = at; rank = rank; holds = holds }

-- the ring's own rows: it visits a block that is not done
abbrev pub between : {Own : Type 0} → ℕ → DistanceToReport → (SenderBlock → Own → ReceiverRegisters → Type 0)
    → OutlineRow DistanceToReport (SenderBlock → Own → ReceiverRegisters → Type 0)
between at rank holds = record { at = at; rank = rank; holds = holds }

abbrev pub opened_rows : (m : BlockInvariant)
    → List (OutlineRow DistanceToReport (SenderBlock → ReceiverCounts m.Own → ReceiverRegisters → Type 0))
    → List (ReceiverRow m)
opened_rows m [] = []
opened_rows m (row ∷ rows) = record { at = row.at; rank = row.rank; holds = λ k i n r. Opened m k i n r.x8 r.x22 × row.holds k n r } ∷ opened_rows m rows

abbrev pub rows_of : (m : BlockInvariant) → List (ReceiverRow m)
rows_of m =
    receiver_row 0x00 (Over 2) (λ k i n r. AllReported m n) ∷  -- round: addi x8,x21,0
    receiver_row 0x04 (Over 1) (λ k i n r. AllReported m n × (r.x8 ≡ k.first)) ∷  -- addi x22,x0,0
    receiver_row 0x08 (Visit (λ a x. a.closed) 17 22) (λ k i n r. AllReported m n × Visits k i r.x8 r.x22) ∷  -- visit: lw x5,12(x8)
    receiver_row 0x0C (Visit (λ a x. a.closed) 16 21) (λ k i n r. AllReported m n × Visits k i r.x8 r.x22 × (r.x5 ≡ n.done)) ∷  -- bne x5,x0,step
    receiver_row 0x10 (Near 20) (λ k i n r. Opened m k i n r.x8 r.x22) ∷  -- lw x30,4(x8)
    receiver_row 0x14 (Visit (λ a x. (slice_index x 30 == 0) && a.ended) 16 19)
    (λ k i n r. Opened m k i n r.x8 r.x22 × Flag n r.x30) ∷  -- the ring's first line
    receiver_row 0x28 (Near 13) (λ k i n r. Has m k i n r.x8 r.x22 r.x11 × (r.x7 ≡ offset k n.tails)) ∷  -- addi x7,x7,4
    receiver_row 0x2C (Near 12) (λ k i n r. Has m k i n r.x8 r.x22 r.x11 × (r.x7 ≡ offset k n.tails + 4)) ∷  -- bne x7,x9,keep
    receiver_row 0x30 (Near 11) (λ k i n r. Has m k i n r.x8 r.x22 r.x11 × (offset k n.tails + 4 ≡ 4 * k.size)) ∷  -- addi x7,x0,0
    receiver_row 0x34 (Near 10) (λ k i n r. Has m k i n r.x8 r.x22 r.x11 × (r.x7 ≡ offset k (n.tails + 1))) ∷  -- keep: sw x7,8(x8)
    receiver_row 0x38 (Near 9) (λ k i n r. Taking m k i n r.x8 r.x22 r.x11) ∷  -- addi x10,x22,0
    receiver_row 0x3C (Near 8) (λ k i n r. Taking m k i n r.x8 r.x22 r.x11 × (r.x10 ≡ i)) ∷  -- addi x17,x0,2
    receiver_row 0x40 (Near 7) (λ k i n r. Taking m k i n r.x8 r.x22 r.x11 × (r.x10 ≡ i) × (r.x17 ≡ 2)) ∷  -- ecall
    receiver_row 0x44 (Round 11) (λ k i n r. AllReported m n × Visits k i r.x8 r.x22) ∷  -- jal x0,step
    receiver_row 0x48 (Visit (λ a x. slice_index x 30 == 0) 11 14)
    (λ k i n r. Opened m k i n r.x8 r.x22 × ((r.x30 ≡ 0) ⊎ (n.tails ≡ length k.list))) ∷  -- empty: beq x30,x0,step
    receiver_row 0x4C (Near 13) (λ k i n r. Opened m k i n r.x8 r.x22 × (n.tails ≡ length k.list)) ∷  -- addi x5,x0,1
    receiver_row 0x50 (Near 12) (λ k i n r. Opened m k i n r.x8 r.x22 × (n.tails ≡ length k.list) × (r.x5 ≡ 1)) ∷  -- sw x5,12(x8)
    receiver_row 0x54 (Near 11) (λ k i n r. Closing m k i n r.x8 r.x22) ∷  -- addi x10,x22,0
    receiver_row 0x58 (Near 10) (λ k i n r. Closing m k i n r.x8 r.x22 × (r.x10 ≡ i)) ∷  -- addi x17,x0,3
    receiver_row 0x5C (Near 9) (λ k i n r. Closing m k i n r.x8 r.x22 × (r.x10 ≡ i) × (r.x17 ≡ 3)) ∷  -- ecall
    receiver_row 0x60 (Round 12) (λ k i n r. AllReported m n × Visits k i r.x8 r.x22) ∷  -- addi x20,x20,-1
    receiver_row 0x64 (Round 11) (λ k i n r. AllReported m n × Visits k i r.x8 r.x22) ∷  -- beq x20,x0,quit
    receiver_row 0x68 (Round 10) (λ k i n r. AllReported m n × Visits k i r.x8 r.x22) ∷  -- step: add x8,x8,x18
    receiver_row 0x6C (Round 9) (λ k i n r. AllReported m n × (r.x22 ≡ i) × (r.x8 ≡ k.base + k.stride)) ∷  -- addi x22,x22,1
    receiver_row 0x70 (Round 8) (λ k i n r. AllReported m n × (r.x22 ≡ i + 1) × (r.x8 ≡ k.base + k.stride)) ∷  -- bne x8,x19,visit
    receiver_row 0x74 (Over 3) (λ k i n r. AllReported m n) ∷  -- jal x0,round
    receiver_row 0x78 (Near 2) (λ k i n r. AllReported m n × (r.x20 ≡ 0)) ∷  -- quit: addi x17,x0,93
    receiver_row 0x7C (Near 1) (λ k i n r. AllReported m n × (r.x17 ≡ 93) × (r.x20 ≡ 0)) ∷  -- ecall
    receiver_row 0x80 (Near 0) (λ k i n r. AllReported m n × (r.x20 ≡ 0)) ∷
    opened_rows m m.rows

-- what holds at an offset, and how far its harts are from their ends
abbrev pub ReceiverIs : (m : BlockInvariant) → SenderBlock → ℕ → ℕ → ReceiverCounts m.Own → ReceiverRegisters → Type 0
ReceiverIs m k i here n r = HoldsIn (λ (H : SenderBlock → ℕ → ReceiverCounts m.Own → ReceiverRegisters → Type 0). H k i n r) (rows_of m) here

abbrev pub ranking_of : BlockInvariant → Ranking
ranking_of m = record { sender = left_of m.sender; waits = m.waits; receiver = λ a s. rank_in (length_of a s.registers) (rows_of m) s.pc }
