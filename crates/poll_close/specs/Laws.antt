-- Entries that are no stop: a channel's harts run until they end. What a ring's meaning has to be: the
-- opening has it, every event keeps it, it gives clean reports.
use Rattle.std.specs.Prelude.{ℕ, ◌≡◌, List, Some, ◌≢◌, ◌+◌, ◌*◌, ◌%◌, ◌^◌, ◌≤◌, ◌<◌, All, length, slice_index}
use Rattle.std.specs.List.{slice_get}
use Rattle.step_machine.specs.declared.events.Entry.{Entry}
use Rattle.step_machine.specs.declared.events.Entry.TheVariants as entry
use Rattle.step_machine.specs.History.{OpeningValue, History, at_opening, with_entry}
use Rattle.step_machine.specs.Entries.{reported}
use Rattle.step_machine.specs.Legal.{WellFormed}
use Rattle.step_machine.specs.Runs.{CanFollow}
use Rattle.poll_close.specs.Layout.{block_size, Layout, dense, base_of, end_of, opening_at, AllTouch}
use Rattle.poll_close.specs.Reports.{Clean}
use Rattle.rv_decode.specs.declared.instruction.TheConstants.{MAX_CODE}

abbrev pub GoesOn : Entry → Type 0
GoesOn (entry.Stopped h why) = ⊥
GoesOn e = Unit {0}

abbrev pub AllGoOn : List Entry → Type 0
AllGoOn es = (j : ℕ) (e : Entry) → slice_get es j ≡ Some e → GoesOn e

-- what a ring of a kind is: its tables and its least size
pub record Ring : Type 0 where
  pub sender : List ℕ
  pub receiver : List ℕ
  pub least : ℕ

-- the opening of a channel of this kind over these lists, in a layout
abbrev pub opening_over : Ring → List (List ℕ) → Layout → OpeningValue
opening_over ring lists l = opening_at ring.sender ring.receiver lists l

-- and in the dense one, with rings of S slots
abbrev pub opening_of : Ring → List (List ℕ) → ℕ → OpeningValue
opening_of ring lists S = opening_over ring lists (dense S)

abbrev pub AreWords : List ℕ → Type 0
AreWords ws = All (λ w. (w < 2 ^ 32) × (w ≢ 0)) ws

-- address a is one of the n blocks'
pub record IsInBlocks (l : Layout) (n a : ℕ) : Type 0 where
  pub block : ℕ
  pub known : block < n
  pub from : base_of l block ≤ a
  pub below : a < base_of l block + block_size l.size

-- if word j of memory is in one of the n blocks it opens as 0
abbrev pub IsEmptyAt : Layout → ℕ → ℕ → Type 0
IsEmptyAt l n j = IsInBlocks l n (4 * j) → slice_index l.words j ≡ 0

-- memory opens with words, and the n blocks with zeros
pub record OpensEmpty (l : Layout) (n : ℕ) : Type 0 where
  pub small : (j : ℕ) → slice_index l.words j < 2 ^ 32
  pub empty : (j : ℕ) → IsEmptyAt l n j

-- the lists and a layout are within the limits, over a memory of M words: the layout begins at a word, a stride
-- is of whole words and has room for a block, the receiver's registers can hold where the strides end, the last
-- block ends within memory, whose addresses are 32 bits wide, and the blocks' words open as 0, whatever the other
-- words are
pub record AcceptedAt (ring : Ring) (M : ℕ) (lists : List (List ℕ)) (l : Layout) : Type 0 where
  pub some_sender : 1 ≤ length lists
  pub senders : length lists ≤ 63
  pub size : ring.least ≤ l.size
  pub base : l.base % 4 ≡ 0
  pub stride : l.stride % 4 ≡ 0
  pub room : block_size l.size ≤ l.stride
  pub ends : base_of l (length lists) < 2 ^ 32
  pub fits : end_of l (length lists) ≤ 4 * M
  pub memory : 4 * M < 2 ^ 32
  pub words : All AreWords lists
  pub opens : length l.words ≤ M
  pub empty : OpensEmpty l (length lists)

-- and with rings of S slots in the dense layout
abbrev pub Accepted : Ring → ℕ → List (List ℕ) → ℕ → Type 0
Accepted ring M lists S = AcceptedAt ring M lists (dense S)

-- a meaning of histories: for capacity B, memory M, the lists and the layout
abbrev pub Meaning : Type 1
Meaning = ℕ → ℕ → List (List ℕ) → Layout → History → Type 0

unfoldable pub Opens : Ring → Meaning → Type 0
Opens ring means = (B M : ℕ) (lists : List (List ℕ)) (l : Layout) → AcceptedAt ring M lists l
    → means B M lists l (at_opening (opening_over ring lists l))

unfoldable pub Keeps : Ring → Meaning → Type 0
Keeps ring means = (B M : ℕ) (lists : List (List ℕ)) (l : Layout) (t : History) (e : Entry)
    → AcceptedAt ring M lists l → t.opening ≡ opening_over ring lists l → WellFormed B M t
    → CanFollow B M t e → means B M lists l t → means B M lists l (with_entry t e)

abbrev pub Cleans : Ring → Meaning → Type 0
Cleans ring means = (B M : ℕ) (lists : List (List ℕ)) (l : Layout) (t : History) → AcceptedAt ring M lists l
    → t.opening ≡ opening_over ring lists l → WellFormed B M t → means B M lists l t
    → Clean (reported 0 t.entries) lists

-- tables that fit a hart
abbrev pub FitsHart : Ring → Type 0
FitsHart ring = (length ring.sender ≤ MAX_CODE) × (length ring.receiver ≤ MAX_CODE)

-- no hart of such a channel is ever stopped
abbrev pub Goes : Ring → Meaning → Type 0
Goes ring means = (B M : ℕ) (lists : List (List ℕ)) (l : Layout) (t : History) → AcceptedAt ring M lists l → means B M lists l t → AllGoOn t.entries

-- and each touches its blocks alone
abbrev pub Stays : Ring → Meaning → Type 0
Stays ring means = (B M : ℕ) (lists : List (List ℕ)) (l : Layout) (t : History) → AcceptedAt ring M lists l
    → means B M lists l t → AllTouch l (length lists) t.entries
