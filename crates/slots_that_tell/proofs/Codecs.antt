-- The codecs keep the two readings apart.
use Rattle.std.proofs.Common.{ℕ, ◌+◌, ◌/◌, ◌%◌, ◌≤◌, ◌≡◌, ◌≢◌, ◌==◌, if◌then◌else◌, Bool, true, false, refl, sym, ◌∙◌, ap, subst, arith}
use Rattle.std.specs.Prelude.{not, bit_and}
use Rattle.std.proofs.lemmas.Bool.{cases_eq, eqb-true, eq-eqb, ne_eqb}
use Rattle.std.proofs.Math.Nat.{add-div_right}
use Rattle.queue_parties.specs.Parties.{Party, the_sender, the_receiver, other}
use Rattle.queue_parties.proofs.Positions.{ahead, ahead-is, ahead-mod}
use Rattle.slots_that_tell.specs.Slots.{Slots, gap}
use Rattle.slots_that_tell.specs.Codecs.{zero_is_free, position_number, bits_under, phase_bits}

pub zero_differs : (q : Slots) (p : Party) (k v : ℕ) → zero_is_free p k v ≡ true → zero_is_free (other p) (k + gap q p) v ≡ false
zero_differs q the_sender k v free = ap not free
zero_differs q the_receiver k v full = by (v == 0) full
  where
    by : (b : Bool) → not b ≡ true → b ≡ false
    by false yes2 = refl
    by true wrong = sym wrong

pub numbered_differs : (m : ℕ) → 2 ≤ m → (q : Slots) → q.size % m ≢ 1 → (p : Party) (k v : ℕ) → position_number m p k v ≡ true
    → position_number m (other p) (k + gap q p) v ≡ false
numbered_differs m two q apart the_sender k v free = ne_eqb v ((k + 0 + 1) % m) (λ same.
    (let level : (k + 0) % m ≡ (k + 1) % m = (let z : k + 0 ≡ k = omega arith in ap (λ x. x % m) z) ∙ sym (eqb-true v (k % m) free) ∙ same
    ∙ (let z : k + 0 + 1 ≡ k + 1 = omega arith in ap (λ x. x % m) z) in
    let wrong : 0 ≡ 1 = sym (ahead-is m k 0 (omega (arith, two))) ∙ ap (ahead m k) level ∙ ahead-is m k 1 (omega (arith, two)) in
    omega (arith, wrong)))
numbered_differs m two q apart the_receiver k v full = ne_eqb v ((k + q.size) % m) (λ same.
    (let level : (k + q.size) % m ≡ (k + 1) % m = sym same ∙ eqb-true v ((k + 1) % m) full in
    apart (sym (ahead-mod m k q.size (omega (arith, two))) ∙ ap (ahead m k) level ∙ ahead-is m k 1 (omega (arith, two)))))

not_other : (x a b : ℕ) → a ≢ b → (x == a) ≡ true → (x == b) ≡ false
not_other x a b apart is = ne_eqb x b (λ same. apart (sym (eqb-true x a is) ∙ same))

pub bits_differ : (mask free full : ℕ) → free ≢ full → (q : Slots) (p : Party) (k v : ℕ) → bits_under mask free full p k v ≡ true
    → bits_under mask free full (other p) (k + gap q p) v ≡ false
bits_differ mask free full apart q the_sender k v is = not_other (bit_and v mask) free full apart is
bits_differ mask free full apart q the_receiver k v is = not_other (bit_and v mask) full free (λ same. apart (sym same)) is

-- the next round is odd after an even one, and even after an odd one
turns : (size k : ℕ) → 1 ≤ size → ((k + size) / size % 2 == 0) ≡ not (k / size % 2 == 0)
turns size k some = ap (λ n. n % 2 == 0) (add-div_right k some) ∙ by (k / size)
  where
    by : (n : ℕ) → ((n + 1) % 2 == 0) ≡ not (n % 2 == 0)
    by n = grind (arith, cases_eq, ne_eqb, eq-eqb)

pub phases_differ : (mask free full odd_free odd_full : ℕ) → free ≢ full → full ≢ odd_free → odd_free ≢ odd_full → odd_full ≢ free
    → (q : Slots) → 1 ≤ q.size → (p : Party) (k v : ℕ) → phase_bits q.size mask free full odd_free odd_full p k v ≡ true
    → phase_bits q.size mask free full odd_free odd_full (other p) (k + gap q p) v ≡ false
phases_differ mask free full odd_free odd_full even turn odd back q some the_sender k v is =
    subst (λ j. phase_bits q.size mask free full odd_free odd_full the_receiver j v ≡ false) (let e : k ≡ k + 0 = omega arith in e)
    (by (k / q.size % 2 == 0) is)
  where
    by : (t : Bool) → (if t then bit_and v mask == free else bit_and v mask == odd_free) ≡ true
        → (if t then bit_and v mask == full else bit_and v mask == odd_full) ≡ false
    by true is = not_other (bit_and v mask) free full even is
    by false is = not_other (bit_and v mask) odd_free odd_full odd is
phases_differ mask free full odd_free odd_full even turn odd back q some the_receiver k v is =
    ap (λ t. if t then bit_and v mask == free else bit_and v mask == odd_free) (turns q.size k some) ∙ by (k / q.size % 2 == 0) is
  where
    by : (t : Bool) → (if t then bit_and v mask == full else bit_and v mask == odd_full) ≡ true
        → (if not t then bit_and v mask == free else bit_and v mask == odd_free) ≡ false
    by true is = not_other (bit_and v mask) full odd_free turn is
    by false is = not_other (bit_and v mask) odd_full free back is

-- ---- by hand: the phase bits of virtio's packed ring tell, and one bit that is the same as the round before's doesn't

virtio_tells : (q : Slots) → 1 ≤ q.size → (p : Party) (k v : ℕ) → phase_bits q.size 32896 0 128 32896 32768 p k v ≡ true
    → phase_bits q.size 32896 0 128 32896 32768 (other p) (k + gap q p) v ≡ false
virtio_tells = grind (arith, phases_differ)

-- of two slots, the number 1 tells the receiver of position 0, and the sender of position 2 of the same slot
one_bit_tells_both : (phase_bits 2 1 0 1 1 0 the_receiver 0 1 ≡ true) × (phase_bits 2 1 0 1 1 0 the_sender 2 1 ≡ true)
one_bit_tells_both = (refl, refl)
