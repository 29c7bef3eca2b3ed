-- What a look at a tag says.
use Rattle.std.proofs.Common.{ℕ, ◌+◌, ◌-◌, ◌%◌, ◌^◌, ◌<◌, ◌≤◌, ◌≡◌, ◌≢◌, ◌⊎◌, inl, inr, Bool, true, false, if◌then◌else◌, List, [], ◌∷◌, Option, Some}
use Rattle.std.proofs.Common.{refl, sym, ◌∙◌, ap, subst, arith}
use Rattle.std.specs.Prelude.{unwrap_or}
use Rattle.std.specs.Int.{byte_at}
use Rattle.std.proofs.Math.Nat.{mod-lt}
use Rattle.std.proofs.lemmas.Bool.{cases_lt}
use Rattle.memory.specs.declared.writes.Write.{Write}
use Rattle.memory.specs.Writes.{covers, byte_after, newest_of, joined}
use Rattle.memory.proofs.Bytes.{joined-same}
use Rattle.step_machine.specs.declared.events.Entry.{Entry}
use Rattle.step_machine.specs.Names.{OpeningValue, pending, memory_byte, read}
use Rattle.queue_parties.proofs.Parties.{both-equal, twice}
use Rattle.queue_parties.specs.Parties.{Party, other, QueueCounts, count, known, with_known}
use Rattle.queue_parties.proofs.Positions.{same_slot, ahead, ahead-stands}
use Rattle.slots_that_tell.specs.Slots.{Slots, IsSlots, gap, tag_of, element_at, is_tag, position_at, memory_tag}
use Rattle.slots_that_tell.specs.{teller_hart, told, learned, after_load, moved, moved_on}
use Rattle.slots_that_tell.proofs.Places.{moved-leaves, moved-tag, tag-apart, tag-left, tag-stored, tag-turn, slot-turn, tag-same}
use Rattle.slots_that_tell.proofs.Sides.{Tidy, Held, gaps, moved_on-more, within}

-- the byte at x after these writes, oldest first
abbrev pub after_all : List Write → (x b : ℕ) → ℕ
after_all [] x b = b
after_all (w ∷ ws) x b = after_all ws x (byte_after w x b)

pub newest-after : (x b : ℕ) (found : Option ℕ) (ws : List Write) → unwrap_or (newest_of x found ws) b ≡ after_all ws x (unwrap_or found b)
newest-after x b found [] = refl
newest-after x b found (w ∷ ws) = newest-after x b (if covers w x then Some (byte_at (x - w.addr) w.value) else found) ws
    ∙ ap (after_all ws x) (by (covers w x))
  where
    by : (t : Bool) → unwrap_or (if t then Some (byte_at (x - w.addr) w.value) else found) b ≡ (if t then byte_at (x - w.addr) w.value else unwrap_or found b)
    by true = refl
    by false = refl

module _ (q : Slots) (is : IsSlots q) (r : Party) where
  -- the tag of a slot that no such position has is left
  pub tidy-none : (m : ℕ) (ws : List Write) (f : ℕ → ℕ) (k : ℕ) → Tidy q r m ws
      → ((i : ℕ) → m ≤ i → i < moved_on q m ws → i % q.size ≢ k % q.size)
      → joined (λ i. after_all ws (tag_of q k + i) (f (tag_of q k + i))) q.tag_width ≡ joined (λ i. f (tag_of q k + i)) q.tag_width
  tidy-none m [] f k tidy apart = refl
  tidy-none m (w ∷ ws) f k (inl leaves, tidy) apart =
      tidy-none (moved q m w) ws (λ x. byte_after w x (f x)) k tidy
      (λ i from below. apart i (let same : moved q m w ≡ m = moved-leaves q is m w leaves in omega (arith, same, from)) below)
      ∙ tag-left q is w f k (leaves k)
  tidy-none m (w ∷ ws) f k (inr tag, tidy) apart =
      let more : moved q m w ≡ m + 1 = moved-tag q is r m m w tag in
      let last : moved q m w ≤ moved_on q (moved q m w) ws = moved_on-more q (moved q m w) ws in
      tidy-none (moved q m w) ws (λ x. byte_after w x (f x)) k tidy (λ i from below. apart i (omega (arith, more, from)) below)
      ∙ tag-left q is w f k (tag-apart q is r m k w tag (apart m (omega arith) (omega (arith, more, last))))

  -- and that of a slot that one has is that one's
  pub tidy-one : (m : ℕ) (ws : List Write) (f : ℕ → ℕ) (k i : ℕ) → Tidy q r m ws → m ≤ i → i < moved_on q m ws → moved_on q m ws ≤ m + q.size
      → i % q.size ≡ k % q.size
      → q.tells (other r) (i + gap q r) (joined (λ j. after_all ws (tag_of q k + j) (f (tag_of q k + j))) q.tag_width) ≡ true
  tidy-one m [] f k i tidy from below few level = absurd (omega (arith, from, below))
  tidy-one m (w ∷ ws) f k i (inl leaves, tidy) from below few level =
      let same : moved q m w ≡ m = moved-leaves q is m w leaves in
      tidy-one (moved q m w) ws (λ x. byte_after w x (f x)) k i tidy (omega (arith, same, from)) below (omega (arith, same, few)) level
  tidy-one m (w ∷ ws) f k i (inr tag, tidy) from below few level = by (cases_lt m i)
      (λ less. let more : moved q m w ≡ m + 1 = moved-tag q is r m m w tag in
      tidy-one (moved q m w) ws (λ x. byte_after w x (f x)) k i tidy (omega (arith, more, less)) below (omega (arith, more, few)) level)
    where
      more : moved q m w ≡ m + 1
      more = moved-tag q is r m m w tag

      Told : Type 0
      Told = q.tells (other r) (i + gap q r) (joined (λ j. after_all (w ∷ ws) (tag_of q k + j) (f (tag_of q k + j))) q.tag_width) ≡ true

      by : (m < i) ⊎ (i ≤ m) → (m < i → Told) → q.tells (other r) (i + gap q r)
          (joined (λ j. after_all (w ∷ ws) (tag_of q k + j) (f (tag_of q k + j))) q.tag_width) ≡ true
      by (inl less) later = later less
      by (inr le) later =
          let at : i ≡ m = omega (arith, le, from) in
          let place : w.addr ≡ tag_of q k = tag.place ∙ tag-same q is m k (ap (λ x. x % q.size) (sym at) ∙ level) in
          let last : moved q m w ≤ moved_on q (moved q m w) ws = moved_on-more q (moved q m w) ws in
          let rest : joined (λ j. after_all (w ∷ ws) (tag_of q k + j) (f (tag_of q k + j))) q.tag_width
          ≡ joined (λ j. byte_after w (tag_of q k + j) (f (tag_of q k + j))) q.tag_width =
          tidy-none (moved q m w) ws (λ x. byte_after w x (f x)) k tidy (λ j after below same.
          (let on : m + q.size ≤ j = same_slot q.size m j (omega (arith, is.some))
          (ap (λ x. x % q.size) (sym at) ∙ level ∙ sym same) (omega (arith, more, after)) in
          omega (arith, on, below, few))) in
          ap (q.tells (other r) (i + gap q r)) (rest ∙ tag-stored q is w f k place tag.width)
          ∙ ap (λ j. q.tells (other r) (j + gap q r) (w.value % 256 ^ q.tag_width)) at ∙ tag.word

-- ---- a tag that tells a party that it has a position is true

module _ (q : Slots) (is : IsSlots q) (o : OpeningValue) (es : List Entry) (c : QueueCounts) (m : Party → ℕ) (held : Held q o es c m) (r : Party) where
  tag_read : (k : ℕ) → read o es (teller_hart q r) (tag_of q k) q.tag_width
      ≡ joined (λ i. after_all (pending (teller_hart q r) es) (tag_of q k + i) (memory_byte o es (tag_of q k + i))) q.tag_width
  tag_read k = grind (arith, joined-same, newest-after)

  abbrev ws : List Write
  ws = pending (teller_hart q r) es

  pub true_tag : (j : ℕ) → count r c ≤ j → j < count r c + q.size → q.tells r j (read o es (teller_hart q r) (tag_of q j) q.tag_width) ≡ true
      → j < m (other r) + gap q (other r)
  true_tag j from below tells = by (cases_lt j (m (other r) + gap q (other r)))
    where
      sum : gap q r + gap q (other r) ≡ q.size
      sum = gaps q r

      own : (m r ≤ count r c) × (count r c ≤ m (other r) + gap q (other r))
      own = within q o es c m held r

      window : m (other r) ≤ m r + gap q r
      window = subst (λ s. m (other r) ≤ m s + gap q s) (twice r)
          (let w = within q o es c m held (other r) in omega (arith, w.0, w.1))

      made : moved_on q (m r) ws ≡ count r c
      made = (held.side r).count_is

      by : (j < m (other r) + gap q (other r)) ⊎ (m (other r) + gap q (other r) ≤ j) → j < m (other r) + gap q (other r)
      by (inl less) = less
      by (inr le) = absurd (at (cases_lt k (m r + gap q r)))
        where
          k : ℕ
          k = j - gap q (other r)

          turned : k + gap q (other r) ≡ j
          turned = omega (arith, le)

          not_mine : (v : ℕ) → q.tells (other r) k v ≡ true → q.tells r j v ≡ false
          not_mine v theirs = grind (arith, twice)

          at : (k < m r + gap q r) ⊎ (m r + gap q r ≤ k) → ⊥
          at (inl less) =
              let same : read o es (teller_hart q r) (tag_of q j) q.tag_width ≡ memory_tag q o es j =
              tag_read j ∙ tidy-none q is r (m r) ws (memory_byte o es) j (held.side r).own
              (λ i low high level. (let on : i + q.size ≤ j = same_slot q.size i j (omega (arith, is.some)) level (omega (arith, high, made, from)) in
              omega (arith, on, low, less, turned, sum))) in
              let slot : memory_tag q o es j ≡ memory_tag q o es k =
              ap (λ a. joined (λ i. memory_byte o es (a + i)) q.tag_width) (ap (tag_of q) (sym turned) ∙ tag-turn q is (other r) k) in
              let has : q.tells (other r) k (memory_tag q o es k) ≡ true =
              held.tags (other r) k (omega (arith, le, turned)) (subst (λ s. k < m s + gap q s) (sym (twice r)) less) in
              let wrong : true ≡ false = sym tells ∙ not_mine (read o es (teller_hart q r) (tag_of q j) q.tag_width)
              (ap (q.tells (other r) k) (same ∙ slot) ∙ has) in
              cc
          at (inr more) =
              let i : ℕ = k - gap q r in
              let place : i + gap q r ≡ k = omega (arith, more) in
              let level : i % q.size ≡ j % q.size = sym (slot-turn q is r i) ∙ ap (λ x. x % q.size) place
              ∙ sym (slot-turn q is (other r) k) ∙ ap (λ x. x % q.size) turned in
              let has : q.tells (other r) (i + gap q r) (joined (λ t. after_all ws (tag_of q j + t) (memory_byte o es (tag_of q j + t))) q.tag_width) ≡ true =
              tidy-one q is r (m r) ws (memory_byte o es) j i (held.side r).own (omega (arith, place, more)) (omega (arith, place, turned, made, below, sum))
              (omega (arith, made, own.1, window, sum)) level in
              let wrong : true ≡ false = sym tells ∙ not_mine (read o es (teller_hart q r) (tag_of q j) q.tag_width)
              (ap (q.tells (other r) k) (tag_read j) ∙ subst (λ s. q.tells (other r) s
              (joined (λ t. after_all ws (tag_of q j + t) (memory_byte o es (tag_of q j + t))) q.tag_width) ≡ true)
              place has) in
              cc

  -- so a load tells of no more than memory's count
  pub looked : (a width v : ℕ) → v ≡ read o es (teller_hart q r) a width
      → (after_load q r a width v c ≡ c) ⊎ ((k : ℕ) × (after_load q r a width v c ≡ with_known r k c) × (known r c ≤ k) × (k ≤ m (other r)))
  looked a width v is_read = by (is_tag q a width) refl
    where
      j : ℕ
      j = position_at q (count r c) a

      by : (b : Bool) → is_tag q a width ≡ b → ((if b then learned q r j v c else c) ≡ c)
          ⊎ ((k : ℕ) × ((if b then learned q r j v c else c) ≡ with_known r k c) × (known r c ≤ k) × (k ≤ m (other r)))
      by false off = inl refl
      by true on = told_by (q.tells r j v) refl
        where
          parts : (a ≡ tag_of q (element_at q a)) × (width ≡ q.tag_width)
          parts = both-equal a (tag_of q (element_at q a)) width q.tag_width on

          some : 0 < q.size
          some = omega (arith, is.some)

          level : j % q.size ≡ element_at q a % q.size
          level = ahead-stands q.size (count r c) (element_at q a) some

          place : a ≡ tag_of q j
          place = parts.0 ∙ tag-same q is (element_at q a) j (sym level)

          word : v ≡ read o es (teller_hart q r) (tag_of q j) q.tag_width
          word = is_read ∙ ap (λ x. read o es (teller_hart q r) x width) place ∙ ap (read o es (teller_hart q r) (tag_of q j)) parts.1

          near : j < count r c + q.size
          near = grind (arith, ahead, mod-lt)

          told_by : (t : Bool) → q.tells r j v ≡ t → ((if t then with_known r (known r c + (told q r j - known r c)) c else c) ≡ c)
              ⊎ ((k : ℕ) × ((if t then with_known r (known r c + (told q r j - known r c)) c else c) ≡ with_known r k c) × (known r c ≤ k) × (k ≤ m (other r)))
          told_by false off2 = inl refl
          told_by true on2 =
              let real : j < m (other r) + gap q (other r) = true_tag j (omega arith) near (ap (q.tells r j) (sym word) ∙ on2) in
              let knows : known r c ≤ m (other r) = subst (λ t. known t c ≤ m (other r)) (twice r) (held.side (other r)).known_less in
              inr (known r c + (told q r j - known r c), refl, omega arith, omega (arith, real, knows))

  -- ---- and one that doesn't

  pub false_tag : (j : ℕ) → count r c ≤ j → j < count r c + q.size → q.tells r j (read o es (teller_hart q r) (tag_of q j) q.tag_width) ≡ false
      → m (other r) + gap q (other r) ≤ j
  false_tag j from below silent = by (cases_lt j (m (other r) + gap q (other r)))
    where
      sum : gap q r + gap q (other r) ≡ q.size
      sum = gaps q r

      own : (m r ≤ count r c) × (count r c ≤ m (other r) + gap q (other r))
      own = within q o es c m held r

      window : m (other r) ≤ m r + gap q r
      window = subst (λ s. m (other r) ≤ m s + gap q s) (twice r)
          (let w = within q o es c m held (other r) in omega (arith, w.0, w.1))

      made : moved_on q (m r) ws ≡ count r c
      made = (held.side r).count_is

      by : (j < m (other r) + gap q (other r)) ⊎ (m (other r) + gap q (other r) ≤ j) → m (other r) + gap q (other r) ≤ j
      by (inr le) = le
      by (inl less) =
          let same : read o es (teller_hart q r) (tag_of q j) q.tag_width ≡ memory_tag q o es j =
          tag_read j ∙ tidy-none q is r (m r) ws (memory_byte o es) j (held.side r).own
          (λ i low high level. (let on : i + q.size ≤ j = same_slot q.size i j (omega (arith, is.some)) level (omega (arith, high, made, from)) in
          omega (arith, on, low, less, window, sum))) in
          let has : q.tells r j (memory_tag q o es j) ≡ true = held.tags r j (omega (arith, own.0, from)) less in
          absurd (let wrong : true ≡ false = sym has ∙ ap (q.tells r j) (sym same) ∙ silent in cc)
