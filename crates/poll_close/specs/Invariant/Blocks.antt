-- One sender's block: what never changes of it, its addresses, and the pending stores that go to it.
use Rattle.std.proofs.Common.{ℕ, suc, ◌+◌, ◌*◌, ◌%◌, ◌≡◌, Bool, not, ◌&&◌, List, [], ◌∷◌, take, drop, Some}
use Rattle.std.specs.Prelude.{nat_lt, map}
use Rattle.std.specs.List.{slice_get, slice_index_or, filter}
use Rattle.memory.specs.declared.writes.Write.{Write}
use Rattle.memory.specs.Writes.{write}
use Rattle.poll_close.specs.Layout.{block_size, Layout, base_of}

-- the ring size, where the block begins, the memory's words, the sender's list; and where the first
-- block begins, and how many bytes on the next one does
pub record SenderBlock : Type 0 where
  pub size : ℕ
  pub base : ℕ
  pub words : ℕ
  pub list : List ℕ
  pub first : ℕ
  pub stride : ℕ

abbrev pub block_of : ℕ → Layout → List (List ℕ) → ℕ → SenderBlock
block_of M l lists i = record { size = l.size; base = base_of l i; words = M; list = slice_index_or lists i []; first = l.base; stride = l.stride }

-- the offset of word j among the slots, and the address of its slot
abbrev pub offset : SenderBlock → ℕ → ℕ
offset k j = 4 * (j % k.size)

abbrev pub slot : ℕ → ℕ → ℕ → ℕ
slot S b j = b + 16 + 4 * (j % S)

abbrev pub is_within : SenderBlock → ℕ → Bool
is_within k a = not (nat_lt a k.base) && nat_lt a (k.base + block_size k.size)

-- a word stored to an address, as the write of its bytes
abbrev pub as_write : ℕ × ℕ → Write
as_write x = write x.0 4 x.1

abbrev pub as_writes : List (ℕ × ℕ) → List Write
as_writes xs = map as_write xs

-- the pending stores of a list that go to the block
abbrev pub is_to : SenderBlock → Write → Bool
is_to k w = is_within k w.addr

abbrev pub to_block : SenderBlock → List Write → List Write
to_block k ws = filter (is_to k) ws

-- the stores of one fixed list that are made and have not landed: made n, landed k
abbrev pub window : List (ℕ × ℕ) → ℕ → ℕ → List (ℕ × ℕ)
window xs k n = drop k (take n xs)

-- these are the next of the list's stores, after the first i: none, or one; then j are made
abbrev pub AreNext : List (ℕ × ℕ) → ℕ → ℕ → List (ℕ × ℕ) → Type 0
AreNext xs i j [] = j ≡ i
AreNext xs i j (x ∷ []) = (j ≡ suc i) × (slice_get xs i ≡ Some x)
AreNext xs i j (x ∷ y ∷ more) = ⊥

-- the stores by a list's words, one for each word, or two, by its number and the word; and one at the end
abbrev pub singles : (ℕ → ℕ → ℕ × ℕ) → ℕ × ℕ → List ℕ → List (ℕ × ℕ)
singles each last [] = last ∷ []
singles each last (w ∷ ws) = each 0 w ∷ singles (λ j v. each (suc j) v) last ws

abbrev pub pairs : (ℕ → ℕ → ℕ × ℕ) → (ℕ → ℕ → ℕ × ℕ) → ℕ × ℕ → List ℕ → List (ℕ × ℕ)
pairs first second last [] = last ∷ []
pairs first second last (w ∷ ws) = first 0 w ∷ second 0 w ∷ pairs (λ j v. first (suc j) v) (λ j v. second (suc j) v) last ws

-- word j goes into its slot, and the tail after it says that it is taken
abbrev pub slot_store : SenderBlock → ℕ → ℕ → ℕ × ℕ
slot_store k j w = (slot k.size k.base j, w)

abbrev pub tail_store : SenderBlock → ℕ → ℕ → ℕ × ℕ
tail_store k j w = (k.base + 8, offset k (j + 1))
