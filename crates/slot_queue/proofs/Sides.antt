-- What holds of one party's index: of its word in memory, of the pending stores to it, and of what is known of it.
use Rattle.std.proofs.Common.{ℕ, ◌+◌, ◌-◌, ◌*◌, ◌^◌, ◌<◌, ◌≤◌, ◌≡◌, ◌≢◌, ◌⊎◌, inl, inr, Bool, true, false, if◌then◌else◌, List, [], ◌∷◌, ◌++◌}
use Rattle.std.proofs.Common.{refl, sym, ◌∙◌, ap, subst, arith}
use Rattle.std.specs.Prelude.{All}
use Rattle.std.specs.Int.{byte_at}
use Rattle.std.proofs.Math.Nat.{mod-eq_of_lt}
use Rattle.std.proofs.lemmas.Bool.{eq-eqb}
use Rattle.memory.specs.declared.writes.Write.{Write}
use Rattle.memory.specs.Writes.{write, covers, byte_after, joined}
use Rattle.memory.proofs.Bytes.{joined-same, covers-yes, covers-from}
use Rattle.memory.proofs.Joined.{joined-bytes}
use Rattle.step_machine.specs.declared.events.Entry.{Entry}
use Rattle.step_machine.specs.Names.{OpeningValue, exchange, access_of, write_of, pending, memory_byte, Allowed}
use Rattle.store_buffers.specs.StoreBuffers.{memory_number}
use Rattle.store_buffers.proofs.Effects.{number-after, same-memory, amo-read}
use Rattle.queue_parties.specs.{Party, the_sender, the_receiver, other, QueueCounts, count, known, IsInBytes}
use Rattle.queue_parties.proofs.Landed.{moved_through-more, moved_through-append}
use Rattle.queue_parties.proofs.Parties.{both-equal}
use Rattle.queue_parties.proofs.Positions.{slot-within}
use Rattle.slot_queue.specs.{Queue, index_word, least_count, IsOutside, IsQueue, KeepsOff, hart, index, end, is_index_store, moved, FillsOwned, MayStore}
use Rattle.slot_queue.specs.{moved_on}
use Rattle.slot_queue.proofs.Codes.{least-near, word-least, word-small}

-- a write that leaves the party's index
abbrev pub Leaves : Queue → Party → Write → Type 0
Leaves q p w = (x : ℕ) → IsInBytes (index q p) q.index_width x → covers w x ≡ false

-- one of the index, of the word of some count
pub record IsIndexWord (q : Queue) (p : Party) (w : Write) : Type 0 where
  pub place : w.addr ≡ index q p
  pub width : w.width ≡ q.index_width
  pub of : ℕ
  pub word : w.value ≡ index_word q of

abbrev pub IsClean : Queue → Party → Write → Type 0
IsClean q p w = Leaves q p w ⊎ IsIndexWord q p w

-- where m is the count that the index stands for in memory: the word there, and the true count, which the pending stores make of m;
-- what is pending, of the party's hart and of others; what the other party knows; and that the count is within what is owned
pub record Side (q : Queue) (o : OpeningValue) (es : List Entry) (c : QueueCounts) (p : Party) (m : ℕ) : Type 0 where
  pub word : memory_number o es (index q p) q.index_width ≡ index_word q m
  pub count_is : moved_on q p m (pending (hart q p) es) ≡ count p c
  pub known_less : known (other p) c ≤ m
  pub own : All (IsClean q p) (pending (hart q p) es)
  pub others : (h : ℕ) → h ≢ hart q p → All (Leaves q p) (pending h es)
  pub room : count p c ≤ end q p c

-- ---- counts move on

pub moved-more : (q : Queue) (p : Party) (n : ℕ) (w : Write) → n ≤ moved q p n w
moved-more q p n w = by (is_index_store q p w)
  where
    by : (b : Bool) → n ≤ (if b then least_count q n w.value else n)
    by true = omega arith
    by false = omega arith

pub moved_on-more : (q : Queue) (p : Party) (n : ℕ) (ws : List Write) → n ≤ moved_on q p n ws
moved_on-more q p n ws = moved_through-more (moved q p) (moved-more q p) n ws

pub moved_on-append : (q : Queue) (p : Party) (n : ℕ) (ws vs : List Write) → moved_on q p n (ws ++ vs) ≡ moved_on q p (moved_on q p n ws) vs
moved_on-append q p n ws vs = moved_through-append (moved q p) n ws vs

pub moved-leaves : (q : Queue) → IsQueue q → (p : Party) (n : ℕ) (w : Write) → Leaves q p w → moved q p n w ≡ n
moved-leaves q is p n w leaves = by (is_index_store q p w) refl
  where
    by : (b : Bool) → is_index_store q p w ≡ b → (if b then least_count q n w.value else n) ≡ n
    by false off = refl
    by true on = let parts = both-equal w.addr (index q p) w.width q.index_width on in
        let place : w.addr ≡ index q p = parts.0 in
        let width : w.width ≡ q.index_width = parts.1 in
        let held : covers w (index q p) ≡ true = covers-yes w (index q p) (omega (arith, place)) (omega (arith, place, width, is.some_bytes)) in
        absurd (let no : true ≡ false = sym held ∙ leaves (index q p) (omega arith, omega (arith, is.some_bytes)) in cc)

pub moved-index : (q : Queue) (p : Party) (n : ℕ) (w : Write) → IsIndexWord q p w → moved q p n w ≡ least_count q n w.value
moved-index q p n w is = grind (arith, eq-eqb)

-- ---- which stores are clean

module _ (q : Queue) (is : IsQueue q) where
  pub both-apart : (p : Party) → (index q p + q.index_width ≤ index q (other p)) ⊎ (index q (other p) + q.index_width ≤ index q p)
  both-apart the_sender = is.apart
  both-apart the_receiver = grind arith

  pub indices-apart : (p : Party) → index q p ≢ index q (other p)
  indices-apart p e = grind (arith, both-apart)

  off-index : (p : Party) (x : ℕ) → IsOutside q x → IsInBytes (index q p) q.index_width x → ⊥
  off-index the_sender x out within = out.head within
  off-index the_receiver x out within = out.tail within

  index-apart : (p : Party) → (index q p + q.index_width ≤ q.slots) ⊎ (q.slots + q.size * q.width ≤ index q p)
  index-apart the_sender = is.head_apart
  index-apart the_receiver = is.tail_apart

  pub fills-leaves : (r p : Party) (c : QueueCounts) (w : Write) → FillsOwned q r c w → Leaves q p w
  fills-leaves r p c w fills x within = by (covers w x) refl
    where
      by : (b : Bool) → covers w x ≡ b → b ≡ false
      by false off = refl
      by true on = absurd (elim (fills x on) [
        | inl out ↦ off-index p x out within
        | inr owns ↦
            let slot = slot-within q.slots q.width q.size is.some owns.position x owns.byte in
            elim (index-apart p) [
              | inl l ↦ omega (arith, l, within.0, within.1, slot.0, slot.1)
              | inr l ↦ omega (arith, l, within.0, within.1, slot.0, slot.1)
            ]
      ])

  pub off-leaves : (p : Party) (w : Write) → KeepsOff q w → Leaves q p w
  off-leaves p w keeps x within = by (covers w x) refl
    where
      by : (b : Bool) → covers w x ≡ b → b ≡ false
      by false off = refl
      by true on = absurd (off-index p x (keeps x on) within)

  -- the other's index is left
  pub index-leaves : (p : Party) (w : Write) → w.addr ≡ index q (other p) → w.width ≡ q.index_width → Leaves q p w
  index-leaves p w place width x within = by (covers w x) refl
    where
      by : (b : Bool) → covers w x ≡ b → b ≡ false
      by false off = refl
      by true on = let part = covers-from w x on in
          absurd (elim (both-apart p) [
            | inl l ↦ omega (arith, l, part.0, part.1, within.0, within.1, place, width)
            | inr l ↦ omega (arith, l, part.0, part.1, within.0, within.1, place, width)
          ])

  pub stores-clean : (p : Party) (c : QueueCounts) (w : Write) → MayStore q p c w → IsClean q p w
  stores-clean p c w (inl moves) =
      inr (record { place = moves.place; width = moves.width; of = least_count q (count p c) w.value; word = moves.word })
  stores-clean p c w (inr fills) = inl (fills-leaves p p c w fills)

  pub stores-leave : (p : Party) (c : QueueCounts) (w : Write) → MayStore q (other p) c w → Leaves q p w
  stores-leave p c w (inl moves) = index-leaves p w moves.place moves.width
  stores-leave p c w (inr fills) = fills-leaves (other p) p c w fills

  -- a store keeps a count within what is owned
  pub stores-room : (p : Party) (c : QueueCounts) (w : Write) → MayStore q p c w → count p c ≤ end q p c → moved q p (count p c) w ≤ end q p c
  stores-room p c w (inl moves) le = grind (arith, moved-index)
  stores-room p c w (inr fills) le =
      let at : moved q p (count p c) w ≡ count p c = moved-leaves q is p (count p c) w (fills-leaves p p c w fills) in
      omega (arith, at, le)

  -- ---- the word in memory, after a write to it or past it

  pub clean-word : (p : Party) (w : Write) (f : ℕ → ℕ) (m : ℕ) → IsClean q p w → joined (λ i. f (index q p + i)) q.index_width ≡ index_word q m
      → joined (λ i. byte_after w (index q p + i) (f (index q p + i))) q.index_width ≡ index_word q (moved q p m w)
  clean-word p w f m (inl leaves) word = grind (arith, joined-same, moved-leaves)
  clean-word p w f m (inr of_index) word =
      joined-same (λ i. byte_after w (index q p + i) (f (index q p + i))) (λ i. byte_at i w.value) q.index_width
      (λ i lt. let held : covers w (index q p + i) ≡ true =
      covers-yes w (index q p + i) (omega (arith, of_index.place)) (omega (arith, of_index.place, of_index.width, lt)) in
      let place : index q p + i - w.addr ≡ i = omega (arith, of_index.place) in
      ap (λ b. if b then byte_at (index q p + i - w.addr) w.value else f (index q p + i)) held ∙ ap (λ j. byte_at j w.value) place)
      ∙ joined-bytes w.value q.index_width ∙ mod-eq_of_lt (subst (λ v. v < 256 ^ q.index_width) (sym of_index.word) (word-small q is of_index.of))
      ∙ of_index.word ∙ sym (word-least q is m of_index.of) ∙ ap (λ v. index_word q (least_count q m v)) (sym of_index.word)
      ∙ ap (index_word q) (sym (moved-index q p m w of_index))

  pub word-written : (o : OpeningValue) (es : List Entry) (e : Entry) (p : Party) (w : Write) (m : ℕ) → write_of es e ≡ w ∷ [] → IsClean q p w
      → memory_number o es (index q p) q.index_width ≡ index_word q m
      → memory_number o (es ++ e ∷ []) (index q p) q.index_width ≡ index_word q (moved q p m w)
  word-written o es e p w m writes clean word = number-after o es e (index q p) q.index_width w writes ∙ clean-word p w (memory_byte o es) m clean word

  -- an AMO that writes the word that it read leaves both the word and the count
  module _ (B : ℕ) (o : OpeningValue) (es : List Entry) (e : Entry) (a old new : ℕ) (does : access_of e ≡ exchange a old new) (same : new ≡ old)
      (allowed : Allowed B o es e) (p : Party) (m : ℕ) (word : memory_number o es (index q p) q.index_width ≡ index_word q m) where
    pub word-same : memory_number o (es ++ e ∷ []) (index q p) q.index_width ≡ index_word q m
    word-same = joined-same (λ i. memory_byte o (es ++ e ∷ []) (index q p + i)) (λ i. memory_byte o es (index q p + i)) q.index_width
        (λ i lt. same-memory B o es e a old new does same allowed (index q p + i)) ∙ word

    pub moved-same : moved q p m (write a 4 new) ≡ m
    moved-same = by (is_index_store q p (write a 4 new)) refl
      where
        by : (b : Bool) → is_index_store q p (write a 4 new) ≡ b → (if b then least_count q m new else m) ≡ m
        by false off = refl
        by true on =
            let parts = both-equal a (index q p) 4 q.index_width on in
            let there : new ≡ index_word q m = same ∙ amo-read B o es e a old new does allowed ∙ ap (λ x. memory_number o es x 4) parts.0
            ∙ ap (memory_number o es (index q p)) parts.1 ∙ word in
            ap (least_count q m) there ∙ least-near q is m m (omega arith) (omega (arith, is.words))
