-- The sender's copy of the tail: what leaves it, and what its own store makes of it.
use Rattle.spsc_queue.proofs.Common.{ℕ, ◌+◌, ◌≤◌, ◌≡◌, inl, inr, List, [], ◌∷◌, ◌++◌, length, Option, Some, None, refl, sym, subst, arith, Write, Entry}
use Rattle.spsc_queue.proofs.Common.{OpeningValue, Access, store, access_of, hart_of, own_stores, lands, Allowed, Kind, lamport, fastforward, RingBuffer}
use Rattle.spsc_queue.proofs.Common.{IsRingBuffer, IsWordIn, slot_offset, IsQuiescent, WritesNothingTo, IsWordAt}
use Rattle.spsc_queue.proofs.Offsets.{offset_low}
use Rattle.spsc_queue.proofs.OwnWords.{Own, off_leaves_by, past, own-kept, own-stored, own-rest}

-- where n words are stored, or one of them is about to be, and m slots have been freed in memory: the copy is the offset of a word up to
-- which there is room
pub record CopyIs (r : RingBuffer) (o : OpeningValue) (es : List Entry) (n m c : ℕ) : Type 0 where
  pub place : ℕ
  pub own : Own r.sender o es c (slot_offset r place)
  pub low : n + 1 ≤ place
  pub high : place ≤ m + r.size

abbrev pub Copied : Kind → Option ℕ → RingBuffer → OpeningValue → List Entry → (n m : ℕ) → Type 0
Copied fastforward q r o es n m = q ≡ None
Copied lamport None r o es n m = Unit {0}
Copied lamport (Some c) r o es n m = CopyIs r o es n m c

-- less is stored, and more is known
pub copied-more : (k : Kind) (q : Option ℕ) (r : RingBuffer) (o : OpeningValue) (es : List Entry) (n m n2 m2 : ℕ) → n2 ≤ n → m ≤ m2
    → Copied k q r o es n m → Copied k q r o es n2 m2
copied-more fastforward q r o es n m n2 m2 le less is = is
copied-more lamport None r o es n m n2 m2 le less is = tt
copied-more lamport (Some c) r o es n m n2 m2 le less is =
    record { place = is.place; own = is.own; low = omega (arith, is.low, le); high = omega (arith, is.high, less) }

-- from es to fs the copy stays
abbrev pub CopyStays : RingBuffer → OpeningValue → (es fs : List Entry) → Type 0
CopyStays r o es fs = (c : ℕ) → r.copy ≡ Some c → (v : ℕ) → Own r.sender o es c v → Own r.sender o fs c v

pub copied-on : (q : Option ℕ) (r : RingBuffer) (o : OpeningValue) (es fs : List Entry) (n m : ℕ) → r.copy ≡ q → CopyStays r o es fs
    → Copied lamport q r o es n m → Copied lamport q r o fs n m
copied-on None r o es fs n m some stays is = tt
copied-on (Some c) r o es fs n m some stays is =
    record { place = is.place; own = stays c some (slot_offset r is.place) is.own; low = is.low; high = is.high }

-- an entry that writes nothing to the block leaves it, and so does a store of a word of the block
module _ (B : ℕ) (r : RingBuffer) (is : IsRingBuffer r) (o : OpeningValue) (es : List Entry) (e : Entry)
    (even : (h : ℕ) → lands h es ≤ length (own_stores h es)) (can : Allowed B o es e) where
  pub off_leave : (x : Access) → access_of e ≡ x → WritesNothingTo r x → CopyStays r o es (es ++ e ∷ [])
  off_leave x does off c some v own = own-kept B o es e even can r.sender x does c v (λ y from below. off_leaves_by r x y off
      (omega (arith, from, (is.copy c some).above)) (omega (arith, below, (is.copy c some).below))) own

  pub word_leave : (w : Write) (p : ℕ) → access_of e ≡ store w → IsWordIn r p → IsWordAt w p → CopyStays r o es (es ++ e ∷ [])
  word_leave w p does word at c some v own = own-kept B o es e even can r.sender (store w) does c v (past w p c at (elim (word.no_copy c some) [
    | inl l ↦ inr l
    | inr l ↦ inl l
  ])) own

-- the sender's store of it
pub copied-anew : (r : RingBuffer) (is : IsRingBuffer r) (o : OpeningValue) (es : List Entry) (e : Entry)
    (even : (h : ℕ) → lands h es ≤ length (own_stores h es)) (w : Write) → access_of e ≡ store w → hart_of e ≡ r.sender → (a : ℕ) → r.copy ≡ Some a
    → IsWordAt w a → (n m n2 m2 p : ℕ) → Copied lamport r.copy r o es n m → w.value ≡ slot_offset r p → n2 + 1 ≤ p → p ≤ m2 + r.size
    → Copied lamport r.copy r o (es ++ e ∷ []) n2 m2
copied-anew r is o es e even w does mine a some at n m n2 m2 p copy value low high =
    subst (λ q. Copied lamport q r o (es ++ e ∷ []) n2 m2) (sym some) (record {
      place = p;
      own = subst (Own r.sender o (es ++ e ∷ []) a) value (own-stored es e even o w does r.sender a mine at
          (omega (arith, value, offset_low r is p, is.small)) (subst (λ q. Copied lamport q r o es n m) some copy).own.alone);
      low = low;
      high = high;
    })

-- where the block is at rest, so is the copy
pub copy-at-rest : (r : RingBuffer) (is : IsRingBuffer r) (o : OpeningValue) (es : List Entry) (m : ℕ) → IsQuiescent r o es
    → Copied lamport r.copy r o es (r.begins_with + 0) m
copy-at-rest r is o es m quiet = by r.copy refl
  where
    by : (q : Option ℕ) → r.copy ≡ q → Copied lamport q r o es (r.begins_with + 0) m
    by None none = tt
    by (Some c) some =
        let at = quiet.copy c some in
        record {
          place = at.0;
          own = subst (Own r.sender o es c) at.3 (own-rest r o es r.sender c (is.copy c some).above (is.copy c some).below quiet.pending);
          low = omega (arith, at.1);
          high = omega (arith, at.2);
        }
