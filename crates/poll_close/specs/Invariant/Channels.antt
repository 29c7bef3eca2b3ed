-- What holds of every history of a channel: of each block, of the receiver, and of what is reported.
use Rattle.std.proofs.Common.{ℕ, zero, suc, ◌+◌, ◌<◌, ◌≡◌, ◌≢◌, List, [], length, take, Some}
use Rattle.std.specs.List.{slice_get, slice_index_or}
use Rattle.hart.specs.State.{HartState}
use Rattle.hart.specs.declared.need.Report.{Report}
use Rattle.hart.specs.declared.need.Report.TheVariants as report
use Rattle.step_machine.specs.History.{History}
use Rattle.step_machine.specs.Entries.{pending, reported}
use Rattle.step_machine.specs.WordReads.{AllWriteWords, word_in_memory}
use Rattle.step_machine.specs.Paths.{state_of}
use Rattle.poll_close.specs.Layout.{Layout, AllTouch}
use Rattle.poll_close.specs.Laws.{Meaning, AllGoOn}
use Rattle.poll_close.specs.Reports.{taken, Clean}
use Rattle.poll_close.specs.Invariant.Outlines.{Standing}
use Rattle.poll_close.specs.Invariant.Blocks.{SenderBlock, block_of, as_writes, to_block}
use Rattle.poll_close.specs.Invariant.HartStates.{ReceiverRegisters, whole_of, receives, closings_due}
use Rattle.poll_close.specs.Invariant.BlockInvariant.{BlockInvariant, Count, unsent_of, unread_of, AllReported, ReceiverIs}

-- the sender of a block, which is hart h
pub record SenderPart (m : BlockInvariant) (k : SenderBlock) (M h : ℕ) (t : History) (n : Count m) : Type 0 where
  pub stands : HartState
  pub state : state_of M t h ≡ Some stands
  pub holds : Standing m.sender k n.sender stands
  pub buffer : pending h t.entries ≡ as_writes (unsent_of m k n)

pub record BlockPart (m : BlockInvariant) (k : SenderBlock) (M i : ℕ) (t : History) (n : Count m) : Type 0 where
  pub order : m.CounterInvariant k n
  pub sender : SenderPart m k M (i + 1) t n
  pub theirs : to_block k (pending 0 t.entries) ≡ as_writes (unread_of m k n)
  pub words : m.Words k n.landed (word_in_memory t.opening t.entries)

-- how many senders are reported closed
abbrev pub all_closings : (m : BlockInvariant) → (ℕ → Count m) → ℕ → ℕ
all_closings m f zero = 0
all_closings m f (suc i) = (f i).receiver.closings + all_closings m f i

-- where the receiver stands, and what holds of the block that it visits or visited last
pub record ReceiverPart (m : BlockInvariant) (M : ℕ) (S : Layout) (lists : List (List ℕ)) (t : History) (f : ℕ → Count m) : Type 0 where
  pub place : ℕ
  pub noted : ReceiverRegisters
  pub block : ℕ
  pub known : block < length lists
  pub state : state_of M t 0 ≡ Some (receives m.ring_lines (whole_of (block_of M S lists block) (length lists)) place noted)
  pub holds : ReceiverIs m (block_of M S lists block) block place (f block).receiver noted
  pub others : (j : ℕ) → j < length lists → j ≢ block → AllReported m (f j).receiver
  -- the receiver's count and the closed senders make all
  pub count : noted.x20 + all_closings m f (length lists) ≡ length lists + closings_due place

-- what is reported of sender i
pub record ReportsOf (rs : List Report) (i : ℕ) (list : List ℕ) (took closings : ℕ) : Type 0 where
  pub words : taken rs i ≡ take took list
  pub closed : (k : ℕ) → slice_get rs k ≡ Some (report.Closed i) → closings ≡ 1
  pub reporting : closings ≡ 1 → (k : ℕ) × (slice_get rs k ≡ Some (report.Closed i))

pub record ReportPart (m : BlockInvariant) (lists : List (List ℕ)) (rs : List Report) (f : ℕ → Count m) : Type 0 where
  pub senders : (j : ℕ) → j < length lists → ReportsOf rs j (slice_index_or lists j []) ((f j).receiver.took) ((f j).receiver.closings)
  pub clean : Clean rs lists

pub record Channel (m : BlockInvariant) (M : ℕ) (S : Layout) (lists : List (List ℕ)) (t : History) : Type 0 where
  pub numbers : ℕ → Count m
  pub parts : (i : ℕ) → i < length lists → BlockPart m (block_of M S lists i) M i t (numbers i)
  pub receiver : ReceiverPart m M S lists t numbers
  pub reports : ReportPart m lists (reported 0 t.entries) numbers
  pub unstopped : AllGoOn t.entries
  pub touched : AllTouch S (length lists) t.entries
  -- all stores are of whole words, so that reads are of whole words
  pub written : AllWriteWords t.entries

-- the meaning of a ring, by what it says of one block
abbrev pub means_by : BlockInvariant → Meaning
means_by m B M lists l t = Channel m M l lists t
