-- What holds of a party's tags in its buffer, and of the tags in memory.
use Rattle.std.proofs.Common.{ℕ, ◌+◌, ◌%◌, ◌^◌, ◌<◌, ◌≤◌, ◌≡◌, ◌≢◌, ◌⊎◌, inl, inr, Bool, true, false, if◌then◌else◌, List, [], ◌∷◌, ◌++◌, sym, ◌∙◌, ap}
use Rattle.std.proofs.Common.{subst, arith}
use Rattle.std.specs.Prelude.{All}
use Rattle.std.proofs.lemmas.Bool.{cases_lt}
use Rattle.memory.specs.declared.writes.Write.{Write}
use Rattle.memory.specs.Writes.{covers, byte_after, joined}
use Rattle.memory.proofs.Bytes.{joined-same}
use Rattle.step_machine.specs.declared.events.Entry.{Entry}
use Rattle.step_machine.specs.Names.{OpeningValue, write_of, pending, memory_byte}
use Rattle.step_machine.proofs.Stays.{memory_byte-write, memory_byte-other}
use Rattle.queue_parties.specs.Parties.{Party, the_sender, the_receiver, other, QueueCounts, count, known}
use Rattle.queue_parties.proofs.Positions.{same_slot}
use Rattle.queue_parties.proofs.Landed.{moved_through-more, moved_through-append}
use Rattle.queue_parties.proofs.Parties.{two, twice}
use Rattle.slots_that_tell.specs.Slots.{Slots, IsSlots, gap, tag_of, IsTagByte, memory_tag}
use Rattle.slots_that_tell.specs.{teller_hart, owned_end, moved, IsTagStore, moved_on}
use Rattle.slots_that_tell.proofs.Places.{LeavesTags, tag-apart, tag-left, tag-stored, tag-turn, slot-turn}

-- a party's stores to tags are of its positions from m on, one after the other
abbrev pub Tidy : Slots → Party → (m : ℕ) → List Write → Type 0
Tidy q p m [] = Unit {0}
Tidy q p m (w ∷ ws) = (LeavesTags q w ⊎ IsTagStore q p m w) × Tidy q p (moved q m w) ws

-- where m is the party's count in memory: the true count, which the pending stores make of m; what the other party knows; what is
-- pending; and that the count is within what is owned
pub record Side (q : Slots) (es : List Entry) (c : QueueCounts) (p : Party) (m : ℕ) : Type 0 where
  pub count_is : moved_on q m (pending (teller_hart q p) es) ≡ count p c
  pub known_less : known (other p) c ≤ m
  pub own : Tidy q p m (pending (teller_hart q p) es)
  pub room : count p c ≤ owned_end q p c

-- each slot in memory tells the party whose it is, by memory's counts
abbrev pub Tags : Slots → OpeningValue → List Entry → (Party → ℕ) → Type 0
Tags q o es m = (p : Party) (k : ℕ) → m p ≤ k → k < m (other p) + gap q (other p) → q.tells p k (memory_tag q o es k) ≡ true

pub record Held (q : Slots) (o : OpeningValue) (es : List Entry) (c : QueueCounts) (m : Party → ℕ) : Type 0 where
  pub side : (p : Party) → Side q es c p (m p)
  pub third : (h : ℕ) → ((r : Party) → h ≢ teller_hart q r) → All (LeavesTags q) (pending h es)
  pub tags : Tags q o es m

pub gaps : (q : Slots) (r : Party) → gap q r + gap q (other r) ≡ q.size
gaps q the_sender = omega arith
gaps q the_receiver = omega arith

pub moved-more : (q : Slots) (n : ℕ) (w : Write) → n ≤ moved q n w
moved-more q n w = by (Rattle.slots_that_tell.specs.Slots.is_tag q w.addr w.width)
  where
    by : (b : Bool) → n ≤ (if b then n + 1 else n)
    by true = omega arith
    by false = omega arith

pub moved_on-more : (q : Slots) (n : ℕ) (ws : List Write) → n ≤ moved_on q n ws
moved_on-more q n ws = moved_through-more (moved q) (moved-more q) n ws

pub moved_on-append : (q : Slots) (n : ℕ) (ws vs : List Write) → moved_on q n (ws ++ vs) ≡ moved_on q (moved_on q n ws) vs
moved_on-append q n ws vs = moved_through-append (moved q) n ws vs

pub tidy-append : (q : Slots) (p : Party) (n : ℕ) (ws : List Write) (w : Write) → Tidy q p n ws → (LeavesTags q w ⊎ IsTagStore q p (moved_on q n ws) w)
    → Tidy q p n (ws ++ w ∷ [])
tidy-append q p n [] w tidy one = (one, tt)
tidy-append q p n (v ∷ ws) w tidy one = (tidy.0, tidy-append q p (moved q n v) ws w tidy.1 one)

-- the window of memory's counts
pub within : (q : Slots) (o : OpeningValue) (es : List Entry) (c : QueueCounts) (m : Party → ℕ) → Held q o es c m → (p : Party)
    → (m p ≤ count p c) × (count p c ≤ m (other p) + gap q (other p))
within q o es c m held p =
    let low : m p ≤ moved_on q (m p) (pending (teller_hart q p) es) = moved_on-more q (m p) (pending (teller_hart q p) es) in
    let knows : known p c ≤ m (other p) = subst (λ t. known t c ≤ m (other p)) (twice p) (held.side (other p)).known_less in
    (omega (arith, low, (held.side p).count_is), omega (arith, knows, (held.side p).room))

-- ---- tags in memory, after an entry

module _ (q : Slots) (is : IsSlots q) (o : OpeningValue) (es : List Entry) (e : Entry) (m m2 : Party → ℕ) (tags : Tags q o es m) where
  abbrev after : List Entry
  after = es ++ e ∷ []

  same-at : ((p : Party) → m2 p ≡ m p) → ((k : ℕ) → memory_tag q o after k ≡ memory_tag q o es k) → Tags q o after m2
  same-at same left p k from below =
      let one : m2 p ≡ m p = same p in
      let two : m2 (other p) ≡ m (other p) = same (other p) in
      ap (q.tells p k) (left k) ∙ tags p k (omega (arith, one, from)) (omega (arith, two, below))

  pub tags-quiet : write_of es e ≡ [] → ((p : Party) → m2 p ≡ m p) → Tags q o after m2
  tags-quiet none same = same-at same (λ k. joined-same (λ i. memory_byte o after (tag_of q k + i)) (λ i. memory_byte o es (tag_of q k + i)) q.tag_width
      (λ i lt. memory_byte-other o es e (tag_of q k + i) none))

  module _ (w : Write) (writes : write_of es e ≡ w ∷ []) where
    tag-after : (k : ℕ) → memory_tag q o after k ≡ joined (λ i. byte_after w (tag_of q k + i) (memory_byte o es (tag_of q k + i))) q.tag_width
    tag-after k = grind (arith, joined-same, memory_byte-write)

    kept-tag : (k : ℕ) → ((x : ℕ) → IsTagByte q k x → covers w x ≡ false) → memory_tag q o after k ≡ memory_tag q o es k
    kept-tag k leaves = tag-after k ∙ tag-left q is w (memory_byte o es) k leaves

    pub tags-left : LeavesTags q w → ((p : Party) → m2 p ≡ m p) → Tags q o after m2
    tags-left leaves same = same-at same (λ k. kept-tag k (leaves k))

    module _ (r : Party) (tag : IsTagStore q r (m r) w) (room : m r < m (other r) + gap q (other r)) (window : m (other r) ≤ m r + gap q r)
        (more : m2 r ≡ m r + 1) (same : m2 (other r) ≡ m (other r)) where
      apart : (k : ℕ) → m r % q.size ≢ k % q.size → memory_tag q o after k ≡ memory_tag q o es k
      apart k far = kept-tag k (tag-apart q is r (m r) k w tag far)

      mine : (k : ℕ) → m2 r ≤ k → k < m2 (other r) + gap q (other r) → q.tells r k (memory_tag q o after k) ≡ true
      mine k from below =
          let sum : gap q r + gap q (other r) ≡ q.size = gaps q r in
          let far : m r % q.size ≢ k % q.size = λ level.
          (let on : m r + q.size ≤ k = same_slot q.size (m r) k (omega (arith, is.some)) level (omega (arith, more, from)) in
          omega (arith, on, below, same, window, sum)) in
          ap (q.tells r k) (apart k far) ∙ tags r k (omega (arith, more, from)) (omega (arith, same, below))

      old : (k : ℕ) → m (other r) ≤ k → k < m r + gap q r → q.tells (other r) k (memory_tag q o es k) ≡ true
      old = subst (λ s. (k : ℕ) → m (other r) ≤ k → k < m s + gap q s → q.tells (other r) k (memory_tag q o es k) ≡ true) (twice r) (tags (other r))

      theirs : (k : ℕ) → m2 (other r) ≤ k → k < m2 r + gap q r → q.tells (other r) k (memory_tag q o after k) ≡ true
      theirs k from below = by (cases_lt k (m r + gap q r))
        where
          by : (k < m r + gap q r) ⊎ (m r + gap q r ≤ k) → q.tells (other r) k (memory_tag q o after k) ≡ true
          by (inl less) =
              let sum : gap q r + gap q (other r) ≡ q.size = gaps q r in
              let far : m r % q.size ≢ k % q.size = λ level.
              (let on : k + q.size ≤ m r + gap q r = same_slot q.size k (m r + gap q r) (omega (arith, is.some))
              (sym level ∙ sym (slot-turn q is r (m r))) less in
              omega (arith, on, from, same, room, sum)) in
              ap (q.tells (other r) k) (apart k far) ∙ old k (omega (arith, same, from)) less
          by (inr more_than) =
              let at : k ≡ m r + gap q r = omega (arith, more_than, below, more) in
              let place : w.addr ≡ tag_of q k = tag.place ∙ sym (tag-turn q is r (m r)) ∙ ap (tag_of q) (sym at) in
              ap (q.tells (other r) k) (tag-after k ∙ tag-stored q is w (memory_byte o es) k place tag.width)
              ∙ ap (λ j. q.tells (other r) j (w.value % 256 ^ q.tag_width)) at ∙ tag.word

      pub tags-one : Tags q o after m2
      tags-one t = elim (two r t) [
        | inl level ↦ subst (λ t. (k : ℕ) → m2 t ≤ k → k < m2 (other t) + gap q (other t) → q.tells t k (memory_tag q o after k) ≡ true) (sym level) mine
        | inr level ↦ subst (λ t. (k : ℕ) → m2 t ≤ k → k < m2 (other t) + gap q (other t) → q.tells t k (memory_tag q o after k) ≡ true) (sym level)
            (subst (λ s. (k : ℕ) → m2 (other r) ≤ k → k < m2 s + gap q s → q.tells (other r) k (memory_tag q o after k) ≡ true) (sym (twice r)) theirs)
      ]
