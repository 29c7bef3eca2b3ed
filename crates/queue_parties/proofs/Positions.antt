-- Where the slots of positions lie: two positions with one byte are whole rounds apart. So what both parties own of one slot is never owned at once.
use Rattle.std.proofs.Common.{ℕ, suc, ◌+◌, ◌-◌, ◌*◌, ◌/◌, ◌%◌, ◌<◌, ◌≤◌, ◌≡◌, refl, sym, ◌∙◌, ap, arith}
use Rattle.std.proofs.Math.Nat.{mod-lt, mod-eq_of_lt, add-mod-mod, mod-add-mod, mod-add-div, add-mul-mod_self_left, lt_of_not-le}
use Rattle.std.proofs.lemmas.Nat.{mul-le, div-mul-add}
use Rattle.queue_parties.specs.{Party, the_sender, the_receiver, other, QueueCounts, IsWindow, count, with_count, known}
use Rattle.queue_parties.specs.{owned_until, handed_on, IsInBytes, slot_from}
use Rattle.queue_parties.specs.Parties.{hart_among}
use Rattle.queue_parties.proofs.Parties.{Grows}

-- n and what is left of its round are whole rounds
rounds : (m n : ℕ) → 0 < m → n + (m - n % m) ≡ m * (n / m) + m
rounds m n some = let parts : n % m + m * (n / m) ≡ n = mod-add-div n m in let low : n % m < m = mod-lt n some in omega (arith, parts, low)

whole : (m n x : ℕ) → 0 < m → (x + (n + (m - n % m))) % m ≡ x % m
whole m n x some = ap (λ y. (x + y) % m) (rounds m n some)
    ∙ (let turned : x + (m * (n / m) + m) ≡ (x + m * (n / m)) + m * 1 = omega arith in ap (λ y. y % m) turned)
    ∙ add-mul-mod_self_left (x + m * (n / m)) m 1 ∙ add-mul-mod_self_left x m (n / m)

-- how far i is ahead of n, around m
abbrev pub ahead : (m n i : ℕ) → ℕ
ahead m n i = (i + (m - n % m)) % m

pub ahead-mod : (m n t : ℕ) → 0 < m → ahead m n ((n + t) % m) ≡ t % m
ahead-mod m n t some = mod-add-mod (n + t) m (m - n % m)
    ∙ (let turned : n + t + (m - n % m) ≡ t + (n + (m - n % m)) = omega arith in ap (λ y. y % m) turned) ∙ whole m n t some

-- one less than m ahead is found
pub ahead-is : (m n t : ℕ) → t < m → ahead m n ((n + t) % m) ≡ t
ahead-is m n t lt = ahead-mod m n t (omega (arith, lt)) ∙ mod-eq_of_lt lt

pub ahead-stands : (m n i : ℕ) → 0 < m → (n + ahead m n i) % m ≡ i % m
ahead-stands m n i some = add-mod-mod n (i + (m - n % m)) m
    ∙ (let turned : n + (i + (m - n % m)) ≡ i + (n + (m - n % m)) = omega arith in ap (λ y. y % m) turned) ∙ whole m n i some

-- positions with one slot are whole rounds apart
pub same_slot : (m j k : ℕ) → 0 < m → j % m ≡ k % m → j < k → j + m ≤ k
same_slot m j k some same lt =
    let t : ℕ = k - j in
    let place : j + t ≡ k = omega (arith, lt) in
    let level : (j + t) % m ≡ (j + 0) % m = ap (λ x. x % m) place ∙ sym same ∙ (let z : j ≡ j + 0 = omega arith in ap (λ x. x % m) z) in
    let far : suc t ≤ m → ⊥ = λ less.
    (let none : t ≡ 0 = sym (ahead-is m j t less) ∙ ap (ahead m j) level ∙ ahead-is m j 0 some in omega (arith, none, lt)) in
    let le : m < suc t = lt_of_not-le far in
    omega (arith, le, lt)

pub in_slot : (w i y : ℕ) → w * i ≤ y → y < w * i + w → y / w ≡ i
in_slot w i y low high =
    let b : ℕ = y - w * i in
    let is_y : i * w + b ≡ y = grind (arith, low) in
    ap (λ z. z / w) (sym is_y) ∙ div-mul-add i w b (omega (arith, low, high))

module _ (slots width size : ℕ) (some : 1 ≤ size) where
  pub one-slot : (j k x : ℕ) → IsInBytes (slot_from slots width size j) width x → IsInBytes (slot_from slots width size k) width x → j % size ≡ k % size
  one-slot j k x of_j of_k = sym (slot j of_j) ∙ slot k of_k
    where
      slot : (i : ℕ) → IsInBytes (slot_from slots width size i) width x → (x - slots) / width ≡ i % size
      slot i is = in_slot width (i % size) (x - slots) (omega (arith, is.0)) (omega (arith, is.0, is.1))

  pub far : (j k x : ℕ) → IsInBytes (slot_from slots width size j) width x → IsInBytes (slot_from slots width size k) width x → j < k → j + size ≤ k
  far j k x of_j of_k lt = same_slot size j k (omega (arith, some)) (one-slot j k x of_j of_k) lt

  -- the slot of a position is among the slots
  pub slot-within : (k x : ℕ) → IsInBytes (slot_from slots width size k) width x → IsInBytes slots (size * width) x
  slot-within k x at =
      let low : k % size < size = mod-lt k (omega (arith, some)) in
      let most : (k % size + 1) * width ≤ size * width = mul-le (k % size + 1) width size width (omega (arith, low)) (omega arith) in
      inside slots width (k % size) (size * width) x most at
    where
      inside : (s w i t x : ℕ) → (i + 1) * w ≤ t → IsInBytes (s + w * i) w x → IsInBytes s t x
      inside s w i t x most at = (grind (arith, at.0), grind (arith, at.1, most))

-- ---- what a party owns

-- a new count leaves what is owned until
pub end-set-count : (capacity : ℕ) (r p : Party) (n : ℕ) (c : QueueCounts) → owned_until capacity p (with_count r n c) ≡ owned_until capacity p c
end-set-count capacity the_sender the_sender n c = refl
end-set-count capacity the_sender the_receiver n c = refl
end-set-count capacity the_receiver the_sender n c = refl
end-set-count capacity the_receiver the_receiver n c = refl

-- the harts of a queue, where its slots lie, and how many of them may be in use at once
pub record Shape : Type 0 where
  pub sender : ℕ
  pub receiver : ℕ
  pub slots : ℕ
  pub width : ℕ
  pub size : ℕ
  pub capacity : ℕ

abbrev pub hart : Shape → Party → ℕ
hart s p = hart_among s.sender s.receiver p

abbrev pub IsByteOf : Shape → (k x : ℕ) → Type 0
IsByteOf s k x = IsInBytes (slot_from s.slots s.width s.size k) s.width x

abbrev pub end : Shape → Party → QueueCounts → ℕ
end s p c = owned_until s.capacity p c

abbrev pub gap : Shape → Party → ℕ
gap s p = handed_on s.size p

pub within : (s : Shape) (c : QueueCounts) → IsWindow s.capacity c → (p : Party) → count p c ≤ end s p c
within s c w the_sender = w.published
within s c w the_receiver = w.taken

-- x is a byte of a position that the party had not passed at counts c, and owns at d
pub record Owned (s : Shape) (x : ℕ) (p : Party) (c d : QueueCounts) : Type 0 where
  pub position : ℕ
  pub from : count p c ≤ position
  pub before : position < end s p d
  pub byte : IsByteOf s position x

-- what a party owns where it stores, it owns after its store too, and had not passed before
pub owned-on : (s : Shape) (x : ℕ) (p : Party) (n : ℕ) (c d : QueueCounts) → Grows c d → Owned s x p d d → Owned s x p c (with_count p n d)
owned-on s x p n c d grows owns = record {
  position = owns.position;
  from = omega (arith, grows.counts p, owns.from);
  before = omega (arith, end-set-count s.capacity p p n d, owns.before);
  byte = owns.byte;
}

module _ (s : Shape) (some : 1 ≤ s.size) (fits : s.capacity ≤ s.size) (x : ℕ) where
  round-on : (j k : ℕ) → IsByteOf s j x → IsByteOf s k x → j < k → j + s.size ≤ k
  round-on j k of_j of_k lt = far s.slots s.width s.size some j k x of_j of_k lt

  -- what the other party owned of the slot at d, it has given up by c, as far as this party knows at l
  pub given-up : (p : Party) (d c l : QueueCounts) (k j : ℕ) → IsWindow s.capacity d → Grows d c → IsByteOf s k x → IsByteOf s j x
      → count p c ≤ k → k < end s p l → j < end s (other p) d → j < known p l
  given-up the_sender d c l k j was grows of_k of_j from below owned =
      let more : d.published ≤ c.published = grows.counts the_sender in
      let back : j + s.size ≤ k = round-on j k of_j of_k (omega (arith, was.known_published, more, from, owned)) in
      omega (arith, back, below, fits)
  given-up the_receiver d c l k j was grows of_k of_j from below owned =
      let more : d.taken ≤ c.taken = grows.counts the_receiver in
      lt_of_not-le (λ le. (let on : k + s.size ≤ j = round-on k j of_k of_j (omega (arith, le, below)) in
      omega (arith, on, owned, was.known_taken, more, from, fits)))

  -- while the other party has position k, or k + size, this one owns none of that slot
  pub not-owned : (p : Party) (c d later : QueueCounts) (k j : ℕ) → IsWindow s.capacity d → Grows d later → IsByteOf s k x → IsByteOf s j x
      → k < count p c → count p c ≤ j → j < end s p d → count (other p) later ≤ k + gap s p → ⊥
  not-owned the_sender c d later k j was grows of_k of_j past from owned taken =
      let more : d.taken ≤ later.taken = grows.counts the_receiver in
      let on : k + s.size ≤ j = round-on k j of_k of_j (omega (arith, past, from)) in
      omega (arith, on, owned, was.known_taken, more, taken, fits)
  not-owned the_receiver c d later k j was grows of_k of_j past from owned sent =
      let more : d.published ≤ later.published = grows.counts the_sender in
      let on : k + s.size ≤ j = round-on k j of_k of_j (omega (arith, past, from)) in
      omega (arith, on, owned, was.known_published, more, sent)

  -- before the receiver learns of a position that the sender owned it owns none of that slot
  pub not-yet : (c : QueueCounts) (k j : ℕ) → IsWindow s.capacity c → IsByteOf s k x → IsByteOf s j x → k < end s the_sender c → c.taken ≤ j → j < k → ⊥
  not-yet c k j was of_k of_j sent from yet =
      let back : j + s.size ≤ k = round-on j k of_j of_k yet in omega (arith, back, sent, from, was.known_taken, fits)
