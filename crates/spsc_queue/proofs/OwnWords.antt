-- A word to which no other hart has a pending store: as its hart reads it, until something is written there.
use Rattle.std.specs.Prelude.{unwrap_or}
use Rattle.std.specs.Int.{byte_at}
use Rattle.spsc_queue.proofs.Common.{ℕ, ◌+◌, ◌-◌, ◌^◌, ◌<◌, ◌≤◌, ◌≡◌, ◌≢◌, ◌==◌, ◌⊎◌, inl, inr, Bool, false, true, if◌then◌else◌, List, [], ◌∷◌, ◌++◌, length}
use Rattle.spsc_queue.proofs.Common.{Some, None, refl, sym, ◌∙◌, ap, subst, arith, All, eq-eqb, ne_eqb, nat_tests, All-nil, All-cons, Write, write, covers-from}
use Rattle.spsc_queue.proofs.Common.{Entry, OpeningValue, Access, store, exchange, access_of, hart_of, stored_by, pending, memory_byte, memory_word}
use Rattle.spsc_queue.proofs.Common.{read_byte, read, own_stores, lands, Allowed, IsOnlyWriter, RingBuffer, overlaps, writes_to, WritesNothingTo, IsWordAt}
use Rattle.memory.specs.Writes.{covers, newest_of}
use Rattle.memory.proofs.Bytes.{joined-same, word_of_bytes, covers-yes}
use Rattle.memory.proofs.WholeWords.{newest_of-append}
use Rattle.step_machine.specs.Entries.{landed_by}
use Rattle.store_buffers.specs.StoreBuffers.{LeavesByte, LeavesByteBy}
use Rattle.store_buffers.proofs.Effects.{stored_none, landed_none, pending-quiet, pending-more}
use Rattle.store_buffers.proofs.Reading.{passed_over}
use Rattle.store_buffers.proofs.MessagePassing.{kept}
use Rattle.spsc_queue.proofs.Cases.{never}

-- no hart other than h has a pending store over the word at a
abbrev pub IsAloneAt : (h a : ℕ) → List Entry → Type 0
IsAloneAt h a es = (x : ℕ) → a ≤ x → x < a + 4 → IsOnlyWriter h x es

pub record Own (h : ℕ) (o : OpeningValue) (es : List Entry) (a v : ℕ) : Type 0 where
  pub reads : read o es h a 4 ≡ v
  pub alone : IsAloneAt h a es

abbrev pub LeavesWord : (a : ℕ) → Access → Type 0
LeavesWord a x = (y : ℕ) → a ≤ y → y < a + 4 → LeavesByteBy y x

-- ---- what leaves a word

-- a write off the block leaves its bytes
pub off_leaves : (r : RingBuffer) (w : Write) (x : ℕ) → overlaps r w ≡ false → r.first ≤ x → x < r.end → LeavesByte x w
off_leaves r w x off from below = never (covers w x) (λ c. (let part = covers-from w x c in grind (arith, nat_tests, off, part.0, part.1, from, below)))

pub off_leaves_by : (r : RingBuffer) (x : Access) (y : ℕ) → WritesNothingTo r x → r.first ≤ y → y < r.end → LeavesByteBy y x
off_leaves_by r (store w) y off from below = off_leaves r w y off from below
off_leaves_by r (exchange a old new) y off from below = inr (off_leaves r (write a 4 new) y off from below)
off_leaves_by r x y off from below = tt

-- and one of a word leaves each byte of no such word
pub past-byte : (w : Write) (p y : ℕ) → IsWordAt w p → (p + 4 ≤ y) ⊎ (y < p) → LeavesByte y w
past-byte w p y at apart = never (covers w y) (λ c. (let part = covers-from w y c in
    elim apart [
      | inl l ↦ omega (arith, part.0, part.1, at.place, at.width, l)
      | inr l ↦ omega (arith, part.0, part.1, at.place, at.width, l)
    ]))

pub past : (w : Write) (p a : ℕ) → IsWordAt w p → (p + 4 ≤ a) ⊎ (a + 4 ≤ p) → LeavesWord a (store w)
past w p a at apart y from below = past-byte w p y at (elim apart [
  | inl l ↦ inl (omega (arith, l, from))
  | inr l ↦ inr (omega (arith, l, below))
])

module _ (es : List Entry) (e : Entry) (even : (h : ℕ) → lands h es ≤ length (own_stores h es)) where
  abbrev after : List Entry
  after = es ++ e ∷ []

  -- what other harts have pending stays
  pub others-same : (h : ℕ) → hart_of e ≢ h → pending h after ≡ pending h es
  others-same h other = pending-quiet es e h (even h)
      (ap (λ b. stored_by b (access_of e)) (ne_eqb (hart_of e) h other) ∙ stored_none (access_of e))
      (ap (λ b. landed_by b (access_of e)) (ne_eqb (hart_of e) h other) ∙ landed_none (access_of e))

  pub only-own : (x : ℕ) → IsOnlyWriter (hart_of e) x es → IsOnlyWriter (hart_of e) x after
  only-own x only g other = subst (All (LeavesByte x)) (sym (others-same g (λ same. other (sym same)))) (only g other)

  -- its hart's own store, which it reads from then on
  module _ (o : OpeningValue) (w : Write) (does : access_of e ≡ store w) where
    pub more-of : pending (hart_of e) after ≡ pending (hart_of e) es ++ w ∷ []
    more-of = pending-more es e (hart_of e) (even (hart_of e)) w
        (ap (stored_by (hart_of e == hart_of e)) does ∙ ap (λ b. if b then w ∷ [] else []) (eq-eqb (hart_of e) (hart_of e) refl))
        (ap (landed_by (hart_of e == hart_of e)) does)

    reads-stored : (c : ℕ) → IsWordAt w c → w.value < 2 ^ 32 → read o after (hart_of e) c 4 ≡ w.value
    reads-stored c at small =
        joined-same (λ i. read_byte o after (hart_of e) (c + i)) (λ i. byte_at i w.value) 4 (λ i lt. one i lt) ∙ word_of_bytes w.value small
      where
        one : (i : ℕ) → i < 4 → read_byte o after (hart_of e) (c + i) ≡ byte_at i w.value
        one i lt =
            let held : covers w (c + i) ≡ true = covers-yes w (c + i) (omega (arith, at.place)) (omega (arith, at.place, at.width, lt)) in
            let place : c + i - w.addr ≡ i = omega (arith, at.place) in
            ap (λ ws. unwrap_or (newest_of (c + i) None ws) (memory_byte o after (c + i))) more-of
            ∙ ap (λ f. unwrap_or f (memory_byte o after (c + i))) (newest_of-append (c + i) None (pending (hart_of e) es) (w ∷ [])
            ∙ ap (λ b. if b then Some (byte_at (c + i - w.addr) w.value) else newest_of (c + i) None (pending (hart_of e) es)) held)
            ∙ ap (λ j. byte_at j w.value) place

    pub own-stored : (h a : ℕ) → hart_of e ≡ h → IsWordAt w a → w.value < 2 ^ 32 → IsAloneAt h a es → Own h o after a w.value
    own-stored h a mine at small alone = subst (λ g. Own g o after a w.value) mine (record {
      reads = reads-stored a at small;
      alone = λ x from below. only-own x (subst (λ g. IsOnlyWriter g x es) (sym mine) (alone x from below));
    })

-- an entry that leaves the word
module _ (B : ℕ) (o : OpeningValue) (es : List Entry) (e : Entry)
    (even : (h : ℕ) → lands h es ≤ length (own_stores h es)) (can : Allowed B o es e) (h : ℕ) where
  pub byte-kept : (y : ℕ) → LeavesByteBy y (access_of e) → IsOnlyWriter h y es
      → (read_byte o (es ++ e ∷ []) h y ≡ read_byte o es h y) × IsOnlyWriter h y (es ++ e ∷ [])
  byte-kept y left only = kept B o h y es (e ∷ []) even (can, tt) only (left, tt)

  pub word-kept : (a : ℕ) → LeavesWord a (access_of e) → IsAloneAt h a es
      → (read o (es ++ e ∷ []) h a 4 ≡ read o es h a 4) × IsAloneAt h a (es ++ e ∷ [])
  word-kept a left alone = (
    joined-same (λ i. read_byte o (es ++ e ∷ []) h (a + i)) (λ i. read_byte o es h (a + i)) 4
        (λ i lt. (byte-kept (a + i) (left (a + i) (omega arith) (omega (arith, lt))) (alone (a + i) (omega arith) (omega (arith, lt)))).0),
    λ y from below. (byte-kept y (left y from below) (alone y from below)).1,
  )

  pub own-kept : (x : Access) → access_of e ≡ x → (a v : ℕ) → LeavesWord a x → Own h o es a v → Own h o (es ++ e ∷ []) a v
  own-kept x does a v left own =
      let both = word-kept a (subst (LeavesWord a) (sym does) left) own.alone in record { reads = both.0 ∙ own.reads; alone = both.1 }

-- ---- where no store to the block is pending

-- what holds of each write off the block holds of all that are pending, if none of these is to the block
pub all-off : (r : RingBuffer) (P : Write → Type 0) → ((w : Write) → overlaps r w ≡ false → P w) → (ws : List Write) → writes_to r ws ≡ [] → All P ws
all-off r P off [] none = All-nil P
all-off r P off (w ∷ ws) none = at (overlaps r w) refl (all-off r P off ws)
  where
    at : (b : Bool) → overlaps r w ≡ b → (writes_to r ws ≡ [] → All P ws) → All P (w ∷ ws)
    at false apart more = All-cons P w ws (off w apart) (more (sym (ap (λ b. if b then w ∷ writes_to r ws else writes_to r ws) apart) ∙ none))
    at true on more = let wrong : w ∷ writes_to r ws ≡ [] = sym (ap (λ b. if b then w ∷ writes_to r ws else writes_to r ws) on) ∙ none in absurd (cc)

pub none_leave : (r : RingBuffer) (x : ℕ) (ws : List Write) → writes_to r ws ≡ [] → r.first ≤ x → x < r.end → All (LeavesByte x) ws
none_leave r x ws none from below = all-off r (LeavesByte x) (λ w off. off_leaves r w x off from below) ws none

module _ (r : RingBuffer) (o : OpeningValue) (es : List Entry) (h a : ℕ) (from : r.first ≤ a) (below : a + 4 ≤ r.end) where
  -- a hart with none pending reads a word of the block as memory has it
  pub quiet_read : writes_to r (pending h es) ≡ [] → read o es h a 4 ≡ memory_word o es a
  quiet_read none = joined-same (λ i. read_byte o es h (a + i)) (λ i. memory_byte o es (a + i)) 4
      (λ i lt. ap (λ f. unwrap_or f (memory_byte o es (a + i)))
      (passed_over (a + i) None (pending h es) (none_leave r (a + i) (pending h es) none (omega (arith, from)) (omega (arith, below, lt)))))

  pub own-rest : ((g : ℕ) → writes_to r (pending g es) ≡ []) → Own h o es a (memory_word o es a)
  own-rest none = record {
    reads = quiet_read (none h);
    alone = λ x low high g other. none_leave r x (pending g es) (none g) (omega (arith, from, low)) (omega (arith, below, high));
  }
