-- When lists at a place are refused, and why: the cases in their order, of which each comes only where none
-- before it does.
use Rattle.std.specs.Prelude.{ℕ, ◌≡◌, ◌*◌, ◌%◌, ◌≢◌, ◌^◌, ◌≤◌, ◌<◌, ◌⊎◌, List, [], All, length, take, slice_index}
use Rattle.std.specs.List.{slice_index_or}
use Rattle.poll_close.specs.Layout.{block_size, base_of, end_of, Layout, dense}
use Rattle.poll_close.specs.Laws.{Ring, AreWords, IsInBlocks, IsEmptyAt, OpensEmpty, AcceptedAt}
use Rattle.poll_close.specs.declared.faults.Refused.{Refused}
use Rattle.poll_close.specs.declared.faults.RefusedAt.{RefusedAt}
use Rattle.poll_close.specs.declared.faults.RefusedAt.TheVariants.{Lists, UnevenBase, UnevenStride, BlocksMeet, FilledBlock}
use Rattle.poll_close.specs.declared.faults.Refused.TheVariants.{NoMemory, ZeroWord, NoSenders, TooManySenders, RingTooSmall, DoesNotFit}

abbrev pub refusal_number : Refused → ℕ
refusal_number NoMemory = 0
refusal_number (ZeroWord sender place) = 16
refusal_number NoSenders = 17
refusal_number TooManySenders = 18
refusal_number RingTooSmall = 19
refusal_number DoesNotFit = 20

-- the first zero of a list stands at place j
pub record ZeroAt (ws : List ℕ) (j : ℕ) : Type 0 where
  pub within : j < length ws
  pub zero : slice_index ws j ≡ 0
  pub first : AreWords (take j ws)

-- the first list with a zero is that of sender i, and its first zero stands at place j
pub record ZeroWordAt (lists : List (List ℕ)) (i j : ℕ) : Type 0 where
  pub within : i < length lists
  pub zero : ZeroAt (slice_index_or lists i []) j
  pub first : All AreWords (take i lists)

-- the lists are senders, and the ring is large enough
pub record HasRing (ring : Ring) (lists : List (List ℕ)) (S : ℕ) : Type 0 where
  pub some_sender : 1 ≤ length lists
  pub senders : length lists ≤ 63
  pub size : ring.least ≤ S

abbrev pub refusal_number_at : RefusedAt → ℕ
refusal_number_at (Lists refused) = refusal_number refused
refusal_number_at UnevenBase = 41
refusal_number_at UnevenStride = 42
refusal_number_at BlocksMeet = 43
refusal_number_at (FilledBlock word) = 44

-- the blocks begin at words, and none meets the next
pub record HasPlace (ring : Ring) (lists : List (List ℕ)) (l : Layout) : Type 0 where
  pub has_ring : HasRing ring lists l.size
  pub base : l.base % 4 ≡ 0
  pub stride : l.stride % 4 ≡ 0
  pub room : block_size l.size ≤ l.stride

-- the strides end below 2³², the last block ends within memory, and the words with which it opens do too
pub record FitsAt (M n : ℕ) (l : Layout) : Type 0 where
  pub ends : base_of l n < 2 ^ 32
  pub fits : end_of l n ≤ 4 * M
  pub opens : length l.words ≤ M

abbrev pub IsBeyond : ℕ → ℕ → Layout → Type 0
IsBeyond M n l = (2 ^ 32 ≤ base_of l n) ⊎ (4 * M < end_of l n) ⊎ (M < length l.words)

-- the first word in one of the n blocks that does not open as 0 is word j
pub record FilledAt (l : Layout) (n j : ℕ) : Type 0 where
  pub inside : IsInBlocks l n (4 * j)
  pub filled : slice_index l.words j ≢ 0
  pub first : (k : ℕ) → k < j → IsEmptyAt l n k

abbrev pub RefusesAt : Ring → ℕ → List (List ℕ) → Layout → RefusedAt → Type 0
RefusesAt ring M lists l (Lists NoSenders) = length lists ≡ 0
RefusesAt ring M lists l (Lists TooManySenders) = 63 < length lists
RefusesAt ring M lists l (Lists RingTooSmall) = (1 ≤ length lists) × (length lists ≤ 63) × (l.size < ring.least)
RefusesAt ring M lists l UnevenBase = HasRing ring lists l.size × (l.base % 4 ≢ 0)
RefusesAt ring M lists l UnevenStride = HasRing ring lists l.size × (l.base % 4 ≡ 0) × (l.stride % 4 ≢ 0)
RefusesAt ring M lists l BlocksMeet = HasRing ring lists l.size × (l.base % 4 ≡ 0) × (l.stride % 4 ≡ 0) × (l.stride < block_size l.size)
RefusesAt ring M lists l (Lists DoesNotFit) = HasPlace ring lists l × IsBeyond M (length lists) l
RefusesAt ring M lists l (FilledBlock word) = HasPlace ring lists l × FitsAt M (length lists) l × FilledAt l (length lists) word
RefusesAt ring M lists l (Lists (ZeroWord sender place)) =
    HasPlace ring lists l × FitsAt M (length lists) l × OpensEmpty l (length lists) × ZeroWordAt lists sender place
RefusesAt ring M lists l (Lists NoMemory) = AcceptedAt ring M lists l

-- a refusal of the lists, and not of their place
abbrev pub IsOfLists : RefusedAt → Type 0
IsOfLists (Lists refused) = Unit {0}
IsOfLists UnevenBase = ⊥
IsOfLists UnevenStride = ⊥
IsOfLists BlocksMeet = ⊥
IsOfLists (FilledBlock word) = ⊥

-- and with rings of S slots in the dense layout, where the place is never why
abbrev pub Refuses : Ring → ℕ → List (List ℕ) → ℕ → Refused → Type 0
Refuses ring M lists S refused = RefusesAt ring M lists (dense S) (Lists refused)
