-- What an access does to a byte of a slot, and to the counts: it leaves the byte, or its party owned it; and only a party's own access moves its count on.
use Rattle.std.proofs.Common.{ℕ, ◌*◌, ◌<◌, ◌≡◌, ◌≢◌, ◌==◌, ◌&&◌, ◌⊎◌, inl, inr, Bool, true, false, if◌then◌else◌, List}
use Rattle.std.proofs.Common.{Option, Some, refl, sym, ◌∙◌, ap, subst, arith}
use Rattle.std.proofs.lemmas.Bool.{ne_eqb}
use Rattle.memory.specs.declared.writes.Write.{Write}
use Rattle.memory.specs.Writes.{write, covers}
use Rattle.memory.proofs.Bytes.{covers-yes, covers-from}
use Rattle.step_machine.specs.declared.events.Entry.{Entry}
use Rattle.step_machine.specs.Names.{Access, load, store, exchange, access_of, hart_of}
use Rattle.store_buffers.specs.StoreBuffers.{LeavesByte, LeavesByteBy}
use Rattle.queue_parties.specs.{Party, the_sender, the_receiver, other, QueueCounts, count, known, with_known, IsInBytes}
use Rattle.queue_parties.proofs.Parties.{both-equal, two, twice, count-set, count-set-other, count-set-known, known-set-count, known-set-other, Grows}
use Rattle.queue_parties.proofs.Parties.{grows-same, grows-on, grows-count, grows-known, grows-from}
use Rattle.queue_parties.proofs.Positions.{slot-within}
use Rattle.queue_parties.proofs.Positions.{Owned, owned-on}
use Rattle.slot_queue.specs.{Queue, least_count, IsByteOf, IsQueue, KeepsOff, party_of, index, end, is_index_store, moved, after_load, after_store}
use Rattle.slot_queue.specs.{after_access, counts_next, counts_after, MayStore, KeepsAccess}
use Rattle.slot_queue.proofs.Sides.{moved-more, indices-apart, stores-leave}
use Rattle.slot_queue.proofs.Runs.{stored-end}
use Rattle.slot_queue.proofs.Runs.{shape}

-- ---- counts never go back

module _ (q : Queue) where
  pub grows-load : (r : Party) (a width v : ℕ) (c : QueueCounts) → Grows c (after_load q r a width v c)
  grows-load r a width v c = by (a == index q (other r) && width == q.index_width)
    where
      by : (b : Bool) → Grows c (if b then with_known r (least_count q (known r c) v) c else c)
      by true = grows-known r (least_count q (known r c) v) c (omega arith)
      by false = grows-same c

  grows-store : (r : Party) (w : Write) (c : QueueCounts) → Grows c (after_store q r w c)
  grows-store r w c = grows-count r (moved q r (count r c) w) c (moved-more q r (count r c) w)

  pub grows-access : (t : Option Party) (x : Access) (c : QueueCounts) → Grows c (after_access q t x c)
  grows-access (Some r) (load a width v) c = grows-load r a width v c
  grows-access (Some r) (store w) c = grows-store r w c
  grows-access (Some r) (exchange a old new) c =
      grows-on (after_store q r (write a 4 new) (after_load q r a 4 old c)) (grows-load r a 4 old c) (grows-store r (write a 4 new) (after_load q r a 4 old c))
  grows-access other beside c = grows-same c

  pub grows-entry : (c : QueueCounts) (e : Entry) → Grows c (counts_next q c e)
  grows-entry c e = grows-access (party_of q (hart_of e)) (access_of e) c

  pub grows-after : (c : QueueCounts) (es : List Entry) → Grows c (counts_after q c es)
  grows-after c es = grows-from (counts_next q) grows-entry c es

module _ (q : Queue) (is : IsQueue q) (x : ℕ) where
  -- ---- what a party's access does to a byte of a slot

  index-off : (p : Party) (k : ℕ) → IsByteOf q k x → IsInBytes (index q p) q.index_width x → ⊥
  index-off p k of_k within = by p within
    where
      slot : IsInBytes q.slots (q.size * q.width) x
      slot = slot-within q.slots q.width q.size is.some k x of_k

      by : (p : Party) → IsInBytes (index q p) q.index_width x → ⊥
      by the_sender within = elim is.head_apart [
        | inl l ↦ omega (arith, l, within.0, within.1, slot.0, slot.1)
        | inr l ↦ omega (arith, l, within.0, within.1, slot.0, slot.1)
      ]
      by the_receiver within = elim is.tail_apart [
        | inl l ↦ omega (arith, l, within.0, within.1, slot.0, slot.1)
        | inr l ↦ omega (arith, l, within.0, within.1, slot.0, slot.1)
      ]

  pub off-byte : (k : ℕ) → IsByteOf q k x → (w : Write) → KeepsOff q w → LeavesByte x w
  off-byte k of_k w keeps = by (covers w x) refl
    where
      by : (b : Bool) → covers w x ≡ b → b ≡ false
      by false off = refl
      by true on = absurd ((keeps x on).slots (slot-within q.slots q.width q.size is.some k x of_k))

  stores-byte : (k : ℕ) → IsByteOf q k x → (p : Party) (c : QueueCounts) (w : Write) → MayStore q p c w → LeavesByte x w ⊎ Owned (shape q) x p c c
  stores-byte k of_k p c w (inl moves) = inl (by (covers w x) refl)
    where
      by : (b : Bool) → covers w x ≡ b → b ≡ false
      by false off = refl
      by true on = let part = covers-from w x on in
          absurd (index-off p k of_k (omega (arith, part.0, moves.place), omega (arith, part.1, moves.place, moves.width)))
  stores-byte k of_k p c w (inr fills) = by (covers w x) refl
    where
      by : (b : Bool) → covers w x ≡ b → (b ≡ false) ⊎ Owned (shape q) x p c c
      by false off = inl refl
      by true on = elim (fills x on) [
        | inl out ↦ absurd (out.slots (slot-within q.slots q.width q.size is.some k x of_k))
        | inr owns ↦ inr (record { position = owns.position; from = owns.from; before = owns.before; byte = owns.byte })
      ]

  -- it leaves the byte, or the party owned it
  pub access-byte : (k : ℕ) → IsByteOf q k x → (p : Party) (c : QueueCounts) (y : Access) → KeepsAccess q (Some p) c y
      → LeavesByteBy x y ⊎ Owned (shape q) x p c (after_access q (Some p) y c)
  access-byte k of_k p c (store w) keeps = elim (stores-byte k of_k p c w keeps) [
    | inl leaves ↦ inl leaves
    | inr owns ↦ inr (owned-on (shape q) x p (moved q p (count p c) w) c c (grows-same c) owns)
  ]
  access-byte k of_k p c (exchange a old new) (inl same) = inl (inl same)
  access-byte k of_k p c (exchange a old new) (inr may) =
      let c1 : QueueCounts = after_load q p a 4 old c in
      elim (stores-byte k of_k p c1 (write a 4 new) may) [
        | inl leaves ↦ inl (inr leaves)
        | inr owns ↦ inr (owned-on (shape q) x p (moved q p (count p c1) (write a 4 new)) c c1 (grows-load q p a 4 old c) owns)
      ]
  access-byte k of_k p c other keeps = inl tt

-- ---- an access that moves a party's count on is the party's own store to its index

module _ (q : Queue) (is : IsQueue q) (p : Party) where
  pub record MovesCount (t : Option Party) (c : QueueCounts) (y : Access) : Type 0 where
    pub party : t ≡ Some p
    pub same_end : end q p (after_access q t y c) ≡ end q p c
    pub leaves : (x k : ℕ) → IsByteOf q k x → KeepsAccess q t c y → LeavesByteBy x y

  pub loaded-count : (r : Party) (a width v : ℕ) (c : QueueCounts) → count p (after_load q r a width v c) ≡ count p c
  loaded-count r a width v c = by (a == index q (other r) && width == q.index_width)
    where
      by : (b : Bool) → count p (if b then with_known r (least_count q (known r c) v) c else c) ≡ count p c
      by true = count-set-known r p (least_count q (known r c) v) c
      by false = refl

  stored-count : (r : Party) (w : Write) (c : QueueCounts) → count p c < count p (after_store q r w c) → (p ≡ r) × (is_index_store q p w ≡ true)
  stored-count r w c more = elim (two r p) [
    | inl same ↦ (same, by (is_index_store q p w) refl (subst (λ t. count p c < count p (after_store q t w c)) (sym same) more))
    | inr same ↦
        let n : count (other r) (after_store q r w c) ≡ count (other r) c = count-set-other r (moved q r (count r c) w) c in
        let on : count (other r) c < count (other r) (after_store q r w c) = subst (λ t. count t c < count t (after_store q r w c)) same more in
        absurd (omega (arith, n, on))
  ]
    where
      by : (b : Bool) → is_index_store q p w ≡ b → count p c < count p (after_store q p w c) → b ≡ true
      by true on more = refl
      by false off more = grind (arith, count-set)

  -- a store to the index leaves every slot
  index-leaves-byte : (w : Write) → is_index_store q p w ≡ true → (x k : ℕ) → IsByteOf q k x → LeavesByte x w
  index-leaves-byte w on x k of_k = by (covers w x) refl
    where
      parts : (w.addr ≡ index q p) × (w.width ≡ q.index_width)
      parts = both-equal w.addr (index q p) w.width q.index_width on

      by : (b : Bool) → covers w x ≡ b → b ≡ false
      by false off = refl
      by true held = let part = covers-from w x held in
          absurd (index-off q is x p k of_k (omega (arith, part.0, parts.0), omega (arith, part.1, parts.0, parts.1)))

  pub moves-count : (t : Option Party) (c : QueueCounts) (y : Access) → count p c < count p (after_access q t y c) → MovesCount t c y
  moves-count (Some r) c (load a width v) more =
      absurd (let n : count p (after_load q r a width v c) ≡ count p c = loaded-count r a width v c in omega (arith, n, more))
  moves-count (Some r) c (store w) more =
      let at = stored-count r w c more in
      record { party = ap (λ s. Some s) (sym at.0); same_end = stored-end q r p w c; leaves = λ x k of_k keeps. index-leaves-byte w at.1 x k of_k }
  moves-count (Some r) c (exchange a old new) more =
      let n : count p (after_load q r a 4 old c) ≡ count p c = loaded-count r a 4 old c in
      let at = stored-count r (write a 4 new) (after_load q r a 4 old c) (omega (arith, n, more)) in
      let place : a ≡ index q p = (both-equal a (index q p) 4 q.index_width at.1).0 in
      let apart : a ≢ index q (other r) = λ e. indices-apart q is p (sym place ∙ e ∙ ap (λ s. index q (other s)) (sym at.0)) in
      let none : after_load q r a 4 old c ≡ c =
      ap (λ b. if b && (4 == q.index_width) then with_known r (least_count q (known r c) old) c else c)
      (ne_eqb a (index q (other r)) apart) in
      record {
        party = ap (λ s. Some s) (sym at.0);
        same_end = stored-end q r p (write a 4 new) (after_load q r a 4 old c) ∙ ap (end q p) none;
        leaves = λ x k of_k keeps. inr (index-leaves-byte (write a 4 new) at.1 x k of_k);
      }
  moves-count other c beside more = absurd (omega (arith, more))

-- ---- an access by which a party learns of more is its load of the other's index

module _ (q : Queue) (is : IsQueue q) (p : Party) where
  pub record LearnsMore (t : Option Party) (c : QueueCounts) (y : Access) : Type 0 where
    pub same_counts : (s : Party) → count s (after_access q t y c) ≡ count s c
    pub leaves : (x k : ℕ) → IsByteOf q k x → KeepsAccess q t c y → LeavesByteBy x y

  stored-knows : (r : Party) (w : Write) (c : QueueCounts) → known p (after_store q r w c) ≡ known p c
  stored-knows r w c = known-set-count r p (moved q r (count r c) w) c

  loaded-knows : (r : Party) (a width v : ℕ) (c : QueueCounts) → known p c < known p (after_load q r a width v c)
      → (p ≡ r) × (a ≡ index q (other r)) × (width ≡ q.index_width)
  loaded-knows r a width v c more = by (a == index q (other r) && width == q.index_width) refl more
    where
      by : (b : Bool) → (a == index q (other r) && width == q.index_width) ≡ b
          → known p c < known p (if b then with_known r (least_count q (known r c) v) c else c) → (p ≡ r) × (a ≡ index q (other r)) × (width ≡ q.index_width)
      by false off more = absurd (omega (arith, more))
      by true on more = grind (arith, two, both-equal, known-set-other)

  -- an AMO of the other's index, whole, may only write what it read
  amo-back : (r : Party) (c : QueueCounts) (a new : ℕ) → a ≡ index q (other r) → 4 ≡ q.index_width → MayStore q r c (write a 4 new) → ⊥
  amo-back r c a new place whole may =
      let held : covers (write a 4 new) a ≡ true = covers-yes (write a 4 new) a (omega arith) (omega arith) in
      let left : covers (write a 4 new) a ≡ false = stores-leave q is (other r) c (write a 4 new)
      (subst (λ t. MayStore q t c (write a 4 new)) (sym (twice r)) may) a (omega (arith, place), omega (arith, place, whole, is.some_bytes)) in
      let no : true ≡ false = sym held ∙ left in cc

  pub learns-more : (t : Option Party) (c : QueueCounts) (y : Access) → known p c < known p (after_access q t y c) → LearnsMore t c y
  learns-more (Some r) c (store w) more = absurd (let still : known p (after_store q r w c) ≡ known p c = stored-knows r w c in omega (arith, still, more))
  learns-more (Some r) c (load a width v) more =
      record { same_counts = λ s. loaded-count q is s r a width v c; leaves = λ x k of_k keeps. tt }
  learns-more (Some r) c (exchange a old new) more =
      let c1 : QueueCounts = after_load q r a 4 old c in
      let still : known p (after_store q r (write a 4 new) c1) ≡ known p c1 = stored-knows r (write a 4 new) c1 in
      let at = loaded-knows r a 4 old c (omega (arith, still, more)) in
      let apart : a ≢ index q r = λ e. indices-apart q is r (sym e ∙ at.1) in
      let none : moved q r (count r c1) (write a 4 new) ≡ count r c1 =
      ap (λ b. if b && (4 == q.index_width) then least_count q (count r c1) new else count r c1) (ne_eqb a (index q r) apart) in
      record {
        same_counts = λ s. elim (two r s) [
          | inl same ↦ subst (λ s. count s (after_store q r (write a 4 new) c1) ≡ count s c) (sym same)
              (count-set r (moved q r (count r c1) (write a 4 new)) c1 ∙ none ∙ loaded-count q is r r a 4 old c)
          | inr same ↦ subst (λ s. count s (after_store q r (write a 4 new) c1) ≡ count s c) (sym same)
              (count-set-other r (moved q r (count r c1) (write a 4 new)) c1 ∙ loaded-count q is (other r) r a 4 old c)
        ];
        leaves = λ x k of_k keeps. elim keeps [
          | inl same ↦ inl same
          | inr may ↦ absurd (amo-back r c1 a new at.1 at.2 may)
        ];
      }
  learns-more other c beside more = absurd (omega (arith, more))
