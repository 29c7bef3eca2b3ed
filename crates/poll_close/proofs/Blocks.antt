-- Blocks don't meet: an address in one is in no other, so what concerns one leaves the others.
use Rattle.std.proofs.Common.{ℕ, ◌+◌, ◌*◌, ◌%◌, ◌^◌, ◌<◌, ◌≤◌, ◌≡◌, ◌≢◌, ◌==◌, ◌⊎◌, inl, inr, Bool, true, false, if◌then◌else◌, List, [], ◌∷◌, ◌++◌, length}
use Rattle.std.proofs.Common.{Option, Some, refl, sym, ◌∙◌, ap, subst, arith, append-nil, eq-eqb, mod-eq_of_lt, ◌-◌, ◌/◌}
use Rattle.std.specs.Prelude.{slice_index}
use Rattle.std.proofs.lemmas.List.Elements.{filter-append}
use Rattle.std.proofs.lemmas.Bool.{cases_lt, cases_eq}
use Rattle.std.proofs.lemmas.Bool.Decides.{nat_tests}
use Rattle.std.proofs.lemmas.Nat.{mod_below, row_fits, div-add-mod', div-mul-add, mod-mul-add}
use Rattle.memory.specs.declared.writes.Write.{Write}
use Rattle.memory.specs.Writes.{newest_word, IsWholeWord}
use Rattle.poll_close.specs.Layout.{block_size, Layout}
use Rattle.poll_close.specs.Invariant.Blocks.{SenderBlock, block_of, offset, slot, is_within, as_write, as_writes, is_to, to_block}
use Rattle.poll_close.proofs.Windows.{newest_to}
use Rattle.poll_close.specs.Laws.{IsInBlocks, IsEmptyAt}
use Rattle.std.specs.List.{slice_get}

-- a block that an opening lays out, and its words
pub record IsBlock (k : SenderBlock) : Type 0 where
  pub some_slot : 1 ≤ k.size
  pub even : k.base % 4 ≡ 0
  pub inside : k.base + 16 + 4 * k.size ≤ 4 * k.words
  pub first : k.first ≤ k.base
  pub room : block_size k.size ≤ k.stride
  pub next : k.base + k.stride < 2 ^ 32
  pub small : 4 * k.words ≤ 2 ^ 32
  pub wide : 4 * k.words < 2 ^ 32
  pub words : (j : ℕ) → j < length k.list → slice_index k.list j < 2 ^ 32
  pub full : (j : ℕ) → j < length k.list → slice_index k.list j ≢ 0

pub record Within (k : SenderBlock) (a : ℕ) : Type 0 where
  pub from : k.base ≤ a
  pub below : a < k.base + block_size k.size

-- the address of a word of the block, and a store of a whole word to it
pub record IsWordOf (k : SenderBlock) (a : ℕ) : Type 0 where
  pub within : Within k a
  pub aligned : a % 4 ≡ 0

pub record IsStore (k : SenderBlock) (x : ℕ × ℕ) : Type 0 where
  pub place : IsWordOf k x.0
  pub word : x.1 < 2 ^ 32

module _ (k : SenderBlock) (is : IsBlock k) where
  pub offset_low : (j : ℕ) → offset k j + 4 ≤ 4 * k.size
  offset_low j = let below : j % k.size < k.size = mod_below j k.size (omega (arith, is.some_slot)) in omega arith

  pub offset_small : (j : ℕ) → offset k j < 2 ^ 32
  offset_small j = omega (arith, offset_low j, is.inside, is.small)

  -- what a program's sum of the base and an offset is
  pub base_plus : (j : ℕ) {x : ℕ} → x ≡ offset k j → (k.base + x) % 2 ^ 32 ≡ k.base + x
  base_plus j {x} same = mod-eq_of_lt (omega (arith, is.inside, is.small, same, offset_low j))

  -- the four words before the slots, and the slots
  pub word_of : (j : ℕ) → j ≤ 12 → j % 4 ≡ 0 → IsWordOf k (k.base + j)
  word_of j small aligned = record { within = record { from = omega arith; below = omega arith }; aligned = omega (arith, is.even, aligned) }

  pub base_word : IsWordOf k k.base
  base_word = record { within = record { from = omega arith; below = omega arith }; aligned = is.even }

  pub word_from : (b j : ℕ) → b ≡ k.base → j ≤ 12 → j % 4 ≡ 0 → IsWordOf k (b + j)
  word_from b j same small aligned = subst (λ (z : ℕ). IsWordOf k (z + j)) (sym same) (word_of j small aligned)

  pub slot_of : (j : ℕ) → IsWordOf k (slot k.size k.base j)
  slot_of j = record { within = record { from = omega arith; below = omega (arith, offset_low j) }; aligned = omega (arith, is.even) }

  pub slot_at : (a j : ℕ) → a ≡ slot k.size k.base j → IsWordOf k a
  slot_at a j same = subst (IsWordOf k) (sym same) (slot_of j)

  -- all four bytes of a word are the block's
  pub word_end : (a : ℕ) → IsWordOf k a → a + 4 ≤ k.base + block_size k.size
  word_end a word = omega (arith, is.even, word.aligned, word.within.below)

pub within_true : (k : SenderBlock) (a : ℕ) → Within k a → is_within k a ≡ true
within_true k a h = grind (arith, nat_tests, h.from, h.below)

pub within_from : (k : SenderBlock) (a : ℕ) → is_within k a ≡ true → Within k a
within_from k a h = record { from = grind (arith, nat_tests); below = grind (arith, nat_tests) }

apart_below : (M : ℕ) (S : Layout) (lists : List (List ℕ)) (i j a : ℕ) → block_size S.size ≤ S.stride → i < j
    → Within (block_of M S lists i) a → Within (block_of M S lists j) a → ⊥
apart_below M S lists i j a room less h g = grind (arith, row_fits)

pub apart : (M : ℕ) (S : Layout) (lists : List (List ℕ)) (i j a : ℕ) → block_size S.size ≤ S.stride → i ≢ j
    → Within (block_of M S lists i) a → Within (block_of M S lists j) a → ⊥
apart M S lists i j a room other h g = grind (arith, cases_lt i j, apart_below M S lists i j a room, apart_below M S lists j i a room)

to_block-none : (k : SenderBlock) (ws : List Write) (w : Write) → is_within k w.addr ≡ false → to_block k (ws ++ w ∷ []) ≡ to_block k ws
to_block-none k ws w off = filter-append (is_to k) ws (w ∷ []) ∙ ap (λ b. to_block k ws ++ (if b then w ∷ [] else [])) off ∙ append-nil (to_block k ws)

to_block-one : (k : SenderBlock) (ws : List Write) (w : Write) → is_within k w.addr ≡ true → to_block k (ws ++ w ∷ []) ≡ to_block k ws ++ w ∷ []
to_block-one k ws w on = filter-append (is_to k) ws (w ∷ []) ∙ ap (λ b. to_block k ws ++ (if b then w ∷ [] else [])) on

-- at most one store is made: within the block it joins the block's part, and no other's
pub to_block-stored : (k : SenderBlock) (ws : List Write) (qs : List (ℕ × ℕ)) → (qs ≡ []) ⊎ ((x : ℕ × ℕ) × (qs ≡ x ∷ []))
    → ((x : ℕ × ℕ) → qs ≡ x ∷ [] → Within k x.0) → to_block k (ws ++ as_writes qs) ≡ to_block k ws ++ as_writes qs
to_block-stored k ws qs h3 inside = grind (arith, append-nil, to_block-one, within_true)

pub to_block-elsewhere : (k : SenderBlock) (ws : List Write) (qs : List (ℕ × ℕ))
    → (qs ≡ []) ⊎ ((x : ℕ × ℕ) × (qs ≡ x ∷ [])) → ((x : ℕ × ℕ) → qs ≡ x ∷ [] → Within k x.0 → ⊥)
    → to_block k (ws ++ as_writes qs) ≡ to_block k ws
to_block-elsewhere k ws qs h3 outside = grind (arith, append-nil, to_block-none, within_from)

pub outside_differs : (k : SenderBlock) (a b : ℕ) → Within k a → is_within k b ≡ false → (b == a) ≡ false
outside_differs k a b h off = grind (arith, cases_eq, within_true, nat_tests)

newest_first : (k : SenderBlock) (a : ℕ) (found : Option ℕ) (w : Write) (ws : List Write) → Within k a → (b : Bool)
    → is_within k w.addr ≡ b → ((f : Option ℕ) → newest_word a f (to_block k ws) ≡ newest_word a f ws)
    → newest_word a found (to_block k (w ∷ ws)) ≡ newest_word a found (w ∷ ws)
newest_first k a found w ws h b on more = grind (arith, outside_differs)

-- what is pending for an address of the block is pending in the block's part
pub newest-to_block : (k : SenderBlock) (a : ℕ) (found : Option ℕ) (ws : List Write) → Within k a → newest_word a found (to_block k ws) ≡ newest_word a found ws
newest-to_block k a found [] h = refl
newest-to_block k a found (w ∷ ws) h = newest_first k a found w ws h (is_within k w.addr) refl (λ f. newest-to_block k a f ws h)

-- and it is the newest store of the list that the writes say
pub newest-as_writes : (a : ℕ) (found : Option ℕ) (xs : List (ℕ × ℕ)) → newest_word a found (as_writes xs) ≡ newest_to a found xs
newest-as_writes a found [] = refl
newest-as_writes a found (x ∷ xs) = newest-as_writes a (if x.0 == a then Some x.1 else found) xs

-- the oldest write is that of the oldest store
pub first-as_writes : (xs : List (ℕ × ℕ)) (w : Write) (ws : List Write) → as_writes xs ≡ w ∷ ws
    → (x : ℕ × ℕ) × (rest : List (ℕ × ℕ)) × (xs ≡ x ∷ rest) × (w ≡ as_write x) × (ws ≡ as_writes rest)
first-as_writes [] w ws is = cc
first-as_writes (x ∷ xs) w ws is = (x, xs, refl, (let same : w ≡ as_write x = cc in same), (let more : ws ≡ as_writes xs = cc in more))

pub IsStore-whole : (k : SenderBlock) (x : ℕ × ℕ) → IsStore k x → IsWholeWord (as_write x)
IsStore-whole k x is = record { whole = refl; aligned = is.place.aligned; small = is.word }

-- numbers may be chosen block by block
pub choose : (N : Type 0) (P : ℕ → N → Type 0) (none : N) (count : ℕ) → ((i : ℕ) → i < count → (n : N) × P i n)
    → (f : ℕ → N) × ((i : ℕ) → i < count → P i (f i))
choose N P none count each = (f, holds)
  where
    pick : (i : ℕ) → (i < count) ⊎ (count ≤ i) → N
    pick i (inl less) = (each i less).0
    pick i (inr more) = none

    f : ℕ → N
    f i = pick i (cases_lt i count)

    holds : (i : ℕ) → i < count → P i (f i)
    holds i within = at (cases_lt i count)
      where
        at : (c : (i < count) ⊎ (count ≤ i)) → P i (pick i c)
        at (inl less) = (each i less).1
        at (inr more) = absurd (omega arith)

-- one block's numbers are changed
abbrev pub put : {N : Type 0} → (ℕ → N) → ℕ → N → ℕ → N
put f j n i = if i == j then n else f i

pub put_same : {N : Type 0} (f : ℕ → N) (j : ℕ) (n : N) → put f j n j ≡ n
put_same f j n = let on : (j == j) ≡ true = eq-eqb j j refl in rw on refl

pub put_other : {N : Type 0} (f : ℕ → N) (j : ℕ) (n : N) (i : ℕ) → i ≢ j → put f j n i ≡ f i
put_other f j n i other = let off : (i == j) ≡ false = grind (arith, nat_tests) in rw off refl

-- ---- whether an address is in a block: by its offset from the first one, divided by the stride

pub is_inside : (l : Layout) (n a : ℕ) → l.base ≤ a → (a - l.base) / l.stride < n → (a - l.base) % l.stride < block_size l.size → IsInBlocks l n a
is_inside l n a from known below = grind (arith, div-add-mod' (a - l.base) l.stride)

pub record Inside (l : Layout) (n a : ℕ) : Type 0 where
  pub from : l.base ≤ a
  pub known : (a - l.base) / l.stride < n
  pub below : (a - l.base) % l.stride < block_size l.size

pub inside_is : (l : Layout) (n a : ℕ) → block_size l.size ≤ l.stride → IsInBlocks l n a → Inside l n a
inside_is l n a room is = grind (arith, div-mul-add, mod-mul-add)

-- the words before j are looked through
pub record EmptyTo (l : Layout) (n j : ℕ) : Type 0 where
  pub small : (k : ℕ) → k < j → slice_index l.words k < 2 ^ 32
  pub empty : (k : ℕ) → k < j → IsEmptyAt l n k

-- ---- one word of memory is written

abbrev pub IsWrite : (ℕ → ℕ) → (ℕ → ℕ) → ℕ × ℕ → Type 0
IsWrite word new x = (a : ℕ) → new a ≡ (if x.0 == a then x.1 else word a)

module _ (word new : ℕ → ℕ) (a v : ℕ) (write : IsWrite word new (a, v)) where
  pub hit : (b : ℕ) → a ≡ b → new b ≡ v
  hit b same = let on : (a == b) ≡ true = grind (arith, nat_tests) in write b ∙ rw on refl

  pub miss : (b : ℕ) → a ≢ b → new b ≡ word b
  miss b other = let off : (a == b) ≡ false = grind (arith, nat_tests) in write b ∙ rw off refl

-- the store of a number is one
pub same_write : (word new : ℕ → ℕ) (x y : ℕ × ℕ) (xs : List (ℕ × ℕ)) (i : ℕ) → slice_get xs i ≡ Some x → slice_get xs i ≡ Some y
    → IsWrite word new x → IsWrite word new y
same_write word new x y xs i one two write = let same : x ≡ y = cc in subst (IsWrite word new) same write
