-- What an access does to a byte of a slot, and to the counts: it leaves the byte, or its party owned it; and only a party's own access moves its count on.
use Rattle.std.proofs.Common.{ℕ, ◌+◌, ◌-◌, ◌<◌, ◌≤◌, ◌≡◌, ◌⊎◌, inl, inr, Bool, true, false, if◌then◌else◌, List, Option, Some, refl, sym, ap}
use Rattle.std.proofs.Common.{subst, arith}
use Rattle.memory.specs.declared.writes.Write.{Write}
use Rattle.memory.specs.Writes.{write, covers}
use Rattle.memory.proofs.Bytes.{covers-from}
use Rattle.step_machine.specs.declared.events.Entry.{Entry}
use Rattle.step_machine.specs.Names.{Access, load, store, exchange, access_of, hart_of}
use Rattle.store_buffers.specs.StoreBuffers.{LeavesByte, LeavesByteBy}
use Rattle.queue_parties.specs.Parties.{Party, the_sender, the_receiver, other, QueueCounts, count, known, with_known}
use Rattle.queue_parties.proofs.Parties.{two, count-set, count-set-other, known-set-count, known-set-other}
use Rattle.queue_parties.proofs.Parties.{count-set-known, Grows, grows-same, grows-on, hart-is}
use Rattle.queue_parties.proofs.Parties.{grows-count, grows-known, grows-from}
use Rattle.slots_that_tell.specs.Slots.{Slots, IsSlots, gap, is_tag, position_at, IsSlotByte, KeepsOff}
use Rattle.slots_that_tell.specs.{teller_of, teller_hart, owned_end, told, learned, moved, after_load, after_store}
use Rattle.slots_that_tell.specs.{told_access, after_entry, told_counts, MayStore}
use Rattle.slots_that_tell.specs.{TellsAccess}
use Rattle.slots_that_tell.proofs.Places.{tag-in-slot, slot-inside}
use Rattle.slots_that_tell.proofs.Sides.{moved-more}
use Rattle.slots_that_tell.proofs.Runs.{shape}
use Rattle.queue_parties.proofs.Positions.{Owned, owned-on}
use Rattle.queue_parties.specs.Parties.{owned_until}

module _ (q : Slots) where
  -- a load leaves counts, or it is one that tells
  pub loaded : (r : Party) (a width v : ℕ) (c : QueueCounts)
      → (after_load q r a width v c ≡ c) ⊎ ((k : ℕ) × (after_load q r a width v c ≡ with_known r k c) × (known r c ≤ k))
  loaded r a width v c = by (is_tag q a width)
    where
      j : ℕ
      j = position_at q (count r c) a

      by : (b : Bool) → ((if b then learned q r j v c else c) ≡ c) ⊎ ((k : ℕ) × ((if b then learned q r j v c else c) ≡ with_known r k c) × (known r c ≤ k))
      by false = inl refl
      by true = told_by (q.tells r j v)
        where
          told_by : (t : Bool) → ((if t then with_known r (known r c + (told q r j - known r c)) c else c) ≡ c)
              ⊎ ((k : ℕ) × ((if t then with_known r (known r c + (told q r j - known r c)) c else c) ≡ with_known r k c) × (known r c ≤ k))
          told_by false = inl refl
          told_by true = inr (known r c + (told q r j - known r c), refl, omega arith)

  pub loaded-count : (r p : Party) (a width v : ℕ) (c : QueueCounts) → count p (after_load q r a width v c) ≡ count p c
  loaded-count r p a width v c = grind (arith, count-set-known)

  pub grows-load : (r : Party) (a width v : ℕ) (c : QueueCounts) → Grows c (after_load q r a width v c)
  grows-load r a width v c = elim (loaded r a width v c) [
    | inl same ↦ subst (Grows c) (sym same) (grows-same c)
    | inr more ↦ subst (Grows c) (sym more.1) (grows-known r more.0 c more.2)
  ]

  pub stored-end : (r p : Party) (w : Write) (c : QueueCounts) → owned_end q p (after_store q r w c) ≡ owned_end q p c
  stored-end r p w c = ap (λ k. k + gap q (other p)) (known-set-count r p (moved q (count r c) w) c)

  grows-store : (r : Party) (w : Write) (c : QueueCounts) → Grows c (after_store q r w c)
  grows-store r w c = grows-count r (moved q (count r c) w) c (moved-more q (count r c) w)

  pub grows-access : (t : Option Party) (x : Access) (c : QueueCounts) → Grows c (told_access q t x c)
  grows-access (Some r) (load a width v) c = grows-load r a width v c
  grows-access (Some r) (store w) c = grows-store r w c
  grows-access (Some r) (exchange a old new) c =
      grows-on (after_store q r (write a 4 new) (after_load q r a 4 old c)) (grows-load r a 4 old c) (grows-store r (write a 4 new) (after_load q r a 4 old c))
  grows-access other beside c = grows-same c

  pub grows-entry : (c : QueueCounts) (e : Entry) → Grows c (after_entry q c e)
  grows-entry c e = grows-access (teller_of q (hart_of e)) (access_of e) c

  pub grows-after : (c : QueueCounts) (es : List Entry) → Grows c (told_counts q c es)
  grows-after c es = grows-from (after_entry q) grows-entry c es

-- what a party owns, as queue_parties has it
pub ends : (q : Slots) (p : Party) (c : QueueCounts) → owned_end q p c ≡ owned_until q.size p c
ends q the_sender c = refl
ends q the_receiver c = omega arith

module _ (q : Slots) (is : IsSlots q) (x : ℕ) where
  -- ---- what a party's access does to a byte of a slot, of a tag or not

  pub off-byte : (k : ℕ) → IsSlotByte q k x → (w : Write) → KeepsOff q w → LeavesByte x w
  off-byte k of_k w keeps = by (covers w x) refl
    where
      by : (b : Bool) → covers w x ≡ b → b ≡ false
      by false off = refl
      by true on = absurd (slot-inside q is k x of_k (keeps x on))

  stores-byte : (k : ℕ) → IsSlotByte q k x → (p : Party) (c : QueueCounts) (w : Write) → MayStore q p c w → LeavesByte x w ⊎ Owned (shape q) x p c c
  stores-byte k of_k p c w may = by (covers w x) refl may
    where
      by : (b : Bool) → covers w x ≡ b → MayStore q p c w → (b ≡ false) ⊎ Owned (shape q) x p c c
      by false off may = inl refl
      by true on (inl moves) = let part = covers-from w x on in
          inr (record {
            position = count p c;
            from = omega arith;
            before = omega (arith, moves.owned, ends q p c);
            byte = tag-in-slot q is (count p c) k x
                (omega (arith, part.0, moves.tag.place), omega (arith, part.1, moves.tag.place, moves.tag.width)) of_k;
          })
      by true on (inr fills) = elim (fills x on) [
        | inl out ↦ absurd (slot-inside q is k x of_k out)
        | inr owns ↦ inr (record { position = owns.position; from = owns.from; before = omega (arith, owns.before, ends q p c); byte = owns.byte })
      ]

  -- it leaves the byte, or the party owned it
  pub access-byte : (k : ℕ) → IsSlotByte q k x → (p : Party) (c : QueueCounts) (y : Access) → TellsAccess q (Some p) c y
      → LeavesByteBy x y ⊎ Owned (shape q) x p c (told_access q (Some p) y c)
  access-byte k of_k p c (store w) keeps = elim (stores-byte k of_k p c w keeps) [
    | inl leaves ↦ inl leaves
    | inr owns ↦ inr (owned-on (shape q) x p (moved q (count p c) w) c c (grows-same c) owns)
  ]
  access-byte k of_k p c (exchange a old new) keeps =
      let c1 : QueueCounts = after_load q p a 4 old c in
      elim (stores-byte k of_k p c1 (write a 4 new) keeps) [
        | inl leaves ↦ inl (inr leaves)
        | inr owns ↦ inr (owned-on (shape q) x p (moved q (count p c1) (write a 4 new)) c c1 (grows-load q p a 4 old c) owns)
      ]
  access-byte k of_k p c other keeps = inl tt

-- ---- an access that moves a party's count is the party's own store to a tag, and moves it by one

module _ (q : Slots) (p : Party) where
  abbrev pub Moving : Access → Type 0
  Moving y = ((w : Write) × (y ≡ store w) × ((k : ℕ) → moved q k w ≡ k + 1)) ⊎ ((a : ℕ) × (old : ℕ) × (new : ℕ) × (y ≡ exchange a old new))

  moved-cases : (n : ℕ) (w : Write) → (moved q n w ≡ n) ⊎ ((k : ℕ) → moved q k w ≡ k + 1)
  moved-cases n w = by (is_tag q w.addr w.width)
    where
      by : (b : Bool) → ((if b then n + 1 else n) ≡ n) ⊎ ((k : ℕ) → (if b then k + 1 else k) ≡ k + 1)
      by true = inr (λ k. refl)
      by false = inl refl

  pub moving : (t : Option Party) (y : Access) (c : QueueCounts) → count p c < count p (told_access q t y c) → (t ≡ Some p) × Moving y
  moving (Some r) (load a width v) c more = grind (arith, loaded-count)
  moving (Some r) (store w) c more = grind (arith, two, moved-cases, count-set, count-set-other)
  moving (Some r) (exchange a old new) c more = grind (arith, two, loaded-count, count-set-other)
  moving other beside c more = absurd (omega (arith, more))

  -- ---- and one by which it comes to know of more is its own, and leaves the other's count

  other-loads : (r : Party) (a width v : ℕ) (c : QueueCounts) → p ≡ other r → known p (after_load q r a width v c) ≡ known p c
  other-loads r a width v c apart = grind (arith, known-set-other)

  pub learning : (t : Option Party) (y : Access) (c : QueueCounts) → known p c < known p (told_access q t y c)
      → (t ≡ Some p) × (count (other p) (told_access q t y c) ≡ count (other p) c)
  learning (Some r) (store w) c more = grind (arith, known-set-count)
  learning (Some r) (load a width v) c more = grind (arith, two, loaded-count, other-loads)
  learning (Some r) (exchange a old new) c more = by (two r p)
    where
      c1 : QueueCounts
      c1 = after_load q r a 4 old c

      w : Write
      w = write a 4 new

      by : (p ≡ r) ⊎ (p ≡ other r) → (Some r ≡ Some p) × (count (other p) (after_store q r w c1) ≡ count (other p) c)
      by (inl same) = grind (arith, count-set-other, loaded-count)
      by (inr apart) = grind (arith, known-set-count, other-loads)
  learning other beside c more = absurd (omega (arith, more))

pub mine-of : (q : Slots) (is : IsSlots q) (p : Party) (h : ℕ) → teller_of q h ≡ Some p → h ≡ teller_hart q p
mine-of q is p h party = hart-is q.sender q.receiver p h party
