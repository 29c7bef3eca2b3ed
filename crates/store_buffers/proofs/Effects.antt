-- What an entry does to the bytes of memory and to what is pending of a hart.
use Rattle.std.proofs.Common.{ℕ, ◌+◌, ◌-◌, ◌/◌, ◌%◌, ◌<◌, ◌≤◌, ◌≡◌, Bool, true, false, if◌then◌else◌, Option, Some, None, List, [], ◌∷◌, ◌++◌, length, take}
use Rattle.std.proofs.Common.{drop, refl, ◌∙◌, ap, subst, arith, append-nil}
use Rattle.std.specs.Prelude.{unwrap_or, slice_index}
use Rattle.std.specs.Int.{byte_at}
use Rattle.memory.specs.declared.writes.Write.{Write}
use Rattle.memory.specs.Writes.{write, covers, byte_after, newest_of, joined}
use Rattle.memory.proofs.Bytes.{joined-same, byte_below, byte_of_joined, covers-from}
use Rattle.step_machine.specs.declared.events.Entry.{Entry}
use Rattle.step_machine.specs.Names.{OpeningValue, Access, store, exchange, land, access_of, hart_of, stored_by}
use Rattle.step_machine.specs.Names.{landed_by, written_by, own_store, land_of, write_of, pending}
use Rattle.step_machine.specs.Names.{landed, opening_byte, memory_byte, read_byte, own_stores, lands, read, AllowedBy, Allowed}
use Rattle.step_machine.proofs.{pending-last, memory_byte-other, memory_byte-write}
use Rattle.store_buffers.specs.StoreBuffers.{memory_number}

pub stored_none : (x : Access) → stored_by false x ≡ []
stored_none (store w) = refl
stored_none x = refl

pub landed_none : (x : Access) → landed_by false x ≡ 0
landed_none land = refl
landed_none x = refl

-- the number of a few bytes of memory, where nothing is written, and after a write
module _ (o : OpeningValue) (es : List Entry) (e : Entry) (a width : ℕ) where
  pub number-quiet : write_of es e ≡ [] → memory_number o (es ++ e ∷ []) a width ≡ memory_number o es a width
  number-quiet none = joined-same (λ i. memory_byte o (es ++ e ∷ []) (a + i)) (λ i. memory_byte o es (a + i)) width
      (λ i lt. memory_byte-other o es e (a + i) none)

  pub number-after : (w : Write) → write_of es e ≡ w ∷ []
      → memory_number o (es ++ e ∷ []) a width ≡ joined (λ i. byte_after w (a + i) (memory_byte o es (a + i))) width
  number-after w is = joined-same (λ i. memory_byte o (es ++ e ∷ []) (a + i)) (λ i. byte_after w (a + i) (memory_byte o es (a + i))) width
      (λ i lt. memory_byte-write o es e w (a + i) is)

-- each byte of memory is one
newest-below : (x d : ℕ) (found : Option ℕ) (ws : List Write) → unwrap_or found d < 256 → unwrap_or (newest_of x found ws) d < 256
newest-below x d found [] low = low
newest-below x d found (w ∷ ws) low = at (covers w x) (λ f less. newest-below x d f ws less)
  where
    at : (c : Bool) → ((f : Option ℕ) → unwrap_or f d < 256 → unwrap_or (newest_of x f ws) d < 256)
        → unwrap_or (newest_of x (if c then Some (byte_at (x - w.addr) w.value) else found) ws) d < 256
    at true more = more (Some (byte_at (x - w.addr) w.value)) (byte_below (x - w.addr) w.value)
    at false more = more found low

pub memory-below : (o : OpeningValue) (es : List Entry) (x : ℕ) → memory_byte o es x < 256
memory-below o es x = newest-below x (opening_byte o x) None (landed es) (byte_below (x % 4) (slice_index o.words (x / 4)))

-- and each that a hart reads
pub read-below : (o : OpeningValue) (es : List Entry) (h x : ℕ) → read_byte o es h x < 256
read-below o es h x = newest-below x (memory_byte o es x) None (pending h es) (memory-below o es x)

-- an AMO reads memory's word
pub amo-read : (B : ℕ) (o : OpeningValue) (es : List Entry) (e : Entry) (a old new : ℕ) → access_of e ≡ exchange a old new → Allowed B o es e
    → old ≡ memory_number o es a 4
amo-read B o es e a old new does allowed =
    let may : AllowedBy B (pending (hart_of e) es) (read o es (hart_of e)) (exchange a old new) =
    subst (AllowedBy B (pending (hart_of e) es) (read o es (hart_of e))) does allowed in
    may.1 ∙ ap (λ ws. joined (λ i. unwrap_or (newest_of (a + i) None ws) (memory_byte o es (a + i))) 4) may.0

-- and one that writes the word that it read leaves memory as it was
pub same-memory : (B : ℕ) (o : OpeningValue) (es : List Entry) (e : Entry) (a old new : ℕ) → access_of e ≡ exchange a old new → new ≡ old → Allowed B o es e
    → (x : ℕ) → memory_byte o (es ++ e ∷ []) x ≡ memory_byte o es x
same-memory B o es e a old new does same allowed x =
    memory_byte-write o es e w x (ap (written_by (take 1 (pending (hart_of e) es))) does) ∙ at (covers w x) refl
  where
    w : Write
    w = write a 4 new

    at : (c : Bool) → covers w x ≡ c → (if c then byte_at (x - a) new else memory_byte o es x) ≡ memory_byte o es x
    at false off = refl
    at true on =
        let from = covers-from w x on in
        let place : a + (x - a) ≡ x = omega (arith, from.0) in
        ap (byte_at (x - a)) (same ∙ amo-read B o es e a old new does allowed)
        ∙ byte_of_joined (λ i. memory_byte o es (a + i)) (λ i. memory-below o es (a + i)) (x - a) (omega (arith, from.0, from.1))
        ∙ ap (memory_byte o es) place

-- what is pending, after an entry that does nothing to it, a store and a landing
module _ (es : List Entry) (e : Entry) (h : ℕ) (le : lands h es ≤ length (own_stores h es)) where
  pub pending-quiet : own_store h e ≡ [] → land_of h e ≡ 0 → pending h (es ++ e ∷ []) ≡ pending h es
  pending-quiet none still = pending-last h es e le ∙ ap (λ n. drop n (pending h es ++ own_store h e)) still
      ∙ ap (λ ws. pending h es ++ ws) none ∙ append-nil (pending h es)

  pub pending-more : (w : Write) → own_store h e ≡ w ∷ [] → land_of h e ≡ 0 → pending h (es ++ e ∷ []) ≡ pending h es ++ w ∷ []
  pending-more w one still = pending-last h es e le ∙ ap (λ n. drop n (pending h es ++ own_store h e)) still ∙ ap (λ ws. pending h es ++ ws) one

  pub pending-first : (w : Write) (rest : List Write) → pending h es ≡ w ∷ rest → own_store h e ≡ [] → land_of h e ≡ 1 → pending h (es ++ e ∷ []) ≡ rest
  pending-first w rest is none one = pending-last h es e le ∙ ap (λ n. drop n (pending h es ++ own_store h e)) one
      ∙ ap (λ ws. drop 1 (pending h es ++ ws)) none ∙ ap (drop 1) (append-nil (pending h es)) ∙ ap (drop 1) is
