-- What is decided of an entry is what its queue's protocol asks, of one entry and of a run's.
use Rattle.std.proofs.Common.{ℕ, ◌+◌, ◌-◌, ◌*◌, ◌/◌, ◌%◌, ◌^◌, ◌≤◌, ◌≡◌, ◌==◌, ◌||◌, ◌⊎◌, true, Option, Some, None, List, refl, sym, ap, ◌∙◌, subst, inl, inr}
use Rattle.std.specs.Bool.{Decides}
use Rattle.std.proofs.Math.Bool.{or-false}
use Rattle.std.proofs.Math.Nat.{mod-mod}
use Rattle.std.proofs.lemmas.Bool.Decides.{Decides-and, Decides-or, Decides-not, Decides-at, Decides-like, Decides-eqb, Decides-ltb}
use Rattle.memory.specs.declared.writes.Write.{Write}
use Rattle.memory.specs.Writes.{write, covers}
use Rattle.step_machine.specs.declared.events.Entry.{Entry}
use Rattle.step_machine.specs.Names.{Access, load, store, exchange, access_of, hart_of}
use Rattle.queue_parties.specs.{Party, other, QueueCounts, count, KeepsEach, IsInBytes}
use Rattle.slot_queue.specs.{IsOutside, index_word, least_count, index, end, OwnsByte, MovesOn, KeepsAccess}
use Rattle.slots_that_tell.specs.Slots.{Slots, gap, tag_of, IsSlotByte, IsOutside as IsOffSlots}
use Rattle.slots_that_tell.specs.Telling.{owned_end, OwnsRest, IsTagStore, MovesOn as HandsOn, TellsAccess}
use Rattle.queue_layouts.specs.declared.AnyQueue.{AnyQueue}
use Rattle.queue_layouts.specs.declared.AnyQueue.TheVariants.{Indexed, Tagged}
use Rattle.queue_layouts.specs.Tagged.{slots_of}
use Rattle.ownership_runs.specs.{Owned, party_for, access_counts, entry_counts, KeepsOne, Keeps, HasSlot, is_outside, is_to_fill, owned_by, is_tag_store}
use Rattle.ownership_runs.specs.{moves_on, keeps_store, keeps_access, keeps_entry}
use Rattle.ownership_runs.proofs.Bytes.{decides-le, decides-bytes, decides-bytes_of}
use Rattle.ownership_runs.proofs.Told.{IsByteOfOwned, slot-there, decides-owned}

-- ---- the bytes outside a queue

abbrev pub Outside : AnyQueue → (x : ℕ) → Type 0
Outside (Indexed q) x = IsOutside q x
Outside (Tagged q) x = IsOffSlots (slots_of q) x

decides-outside : (q : AnyQueue) (x : ℕ) → Decides (is_outside q x) (Outside q x)
decides-outside (Indexed q) x = Decides-like _ (λ none. record { head = none.0.0; tail = none.0.1; slots = none.1 })
    (λ (is : IsOutside q x). ((is.head, is.tail), is.slots))
    (Decides-and _ _ (Decides-and _ _ (Decides-not _ (decides-bytes q.head q.index_width x)) (Decides-not _ (decides-bytes q.tail q.index_width x)))
    (Decides-not _ (decides-bytes q.slots (q.size * q.width) x)))
decides-outside (Tagged q) x = Decides-like _ (λ none at. elim at [ inl slot ↦ none.0 slot | inr tag ↦ none.1 tag ])
    (λ (is : IsOffSlots (slots_of q) x). (λ slot. is (inl slot), λ tag. is (inr tag)))
    (Decides-and _ _ (Decides-not _ (decides-bytes q.slots (q.size * q.width) x)) (Decides-not _ (decides-bytes q.tags (q.size * q.tag_stride) x)))

-- ---- the bytes that a party may fill

abbrev pub Owns : AnyQueue → Party → QueueCounts → (x : ℕ) → Type 0
Owns (Indexed q) p c x = OwnsByte q p c x
Owns (Tagged q) p c x = OwnsRest (slots_of q) p c x

-- the tag of the slot that a byte lies in is that of each position there
pub tag-there : (q : Slots) → 1 ≤ q.size → (k x : ℕ) → IsSlotByte q k x → tag_of q ((x - q.slots) / q.width) ≡ tag_of q k
tag-there q some k x at = ap (λ (i : ℕ). q.tags + q.tag_stride * i + q.tag_offset)
    (ap (λ (i : ℕ). i % q.size) (slot-there q.slots q.width q.size some k x at) ∙ mod-mod k q.size)

decides-owns : (q : AnyQueue) → HasSlot q → (p : Party) (c : QueueCounts) (x : ℕ) → Decides (is_to_fill q (owned_by q (Some p) c) x) (Owns q p c x)
decides-owns (Indexed q) some p c x = Decides-like _
    (λ (is : IsByteOfOwned q.slots q.width q.size owned x). record { position = is.position; from = is.from; before = is.before; byte = is.byte })
    (λ (is : OwnsByte q p c x). record { position = is.position; from = is.from; before = is.before; byte = is.byte })
    (decides-owned q.slots q.width q.size some owned x)
  where
    owned : Owned
    owned = record { from = count p c; end = end q p c }
decides-owns (Tagged q) some p c x = Decides-like _ there back
    (Decides-and _ _ (decides-owned q.slots q.width q.size some owned x) (Decides-not _ (decides-bytes (tag_of S j) q.tag_width x)))
  where
    S : Slots
    S = slots_of q

    owned : Owned
    owned = record { from = count p c; end = owned_end S p c }

    j : ℕ
    j = (x - q.slots) / q.width

    of_tag : ℕ → Type 0
    of_tag tag = IsInBytes tag q.tag_width x

    there : IsByteOfOwned q.slots q.width q.size owned x × (of_tag (tag_of S j) → ⊥) → OwnsRest S p c x
    there both = record {
      position = both.0.position;
      from = both.0.from;
      before = both.0.before;
      byte = both.0.byte;
      no_tag = λ at. both.1 (subst of_tag (sym (tag-there S some both.0.position x both.0.byte)) at);
    }

    back : OwnsRest S p c x → IsByteOfOwned q.slots q.width q.size owned x × (of_tag (tag_of S j) → ⊥)
    back owns = (
      record { position = owns.position; from = owns.from; before = owns.before; byte = owns.byte },
      λ at. owns.no_tag (subst of_tag (tag-there S some owns.position x owns.byte) at),
    )

-- ---- the stores that move a party's count on

abbrev pub Moves : AnyQueue → Party → QueueCounts → Write → Type 0
Moves (Indexed q) p c w = MovesOn q p c w
Moves (Tagged q) p c w = HandsOn (slots_of q) p c w

decides-tag : (q : Slots) (p : Party) (n : ℕ) (w : Write) → Decides (is_tag_store q p n w) (IsTagStore q p n w)
decides-tag q p n w = Decides-like _ (λ all. record { place = all.0.0; width = all.0.1; word = all.1 })
    (λ (is : IsTagStore q p n w). ((is.place, is.width), is.word))
    (Decides-and _ (q.tells (other p) (n + gap q p) (w.value % 256 ^ q.tag_width))
    (Decides-and _ _ (Decides-eqb w.addr (tag_of q n)) (Decides-eqb w.width q.tag_width)) (λ ok. ok, λ ok. ok))

decides-moves : (q : AnyQueue) (p : Party) (c : QueueCounts) (w : Write) → Decides (moves_on q (Some p) c w) (Moves q p c w)
decides-moves (Indexed q) p c w =
    let far = least_count q (count p c) w.value in
    Decides-like _ (λ all. record { place = all.0.0.0; width = all.0.0.1; word = all.0.1; owned = all.1 })
    (λ (moves : MovesOn q p c w). (((moves.place, moves.width), moves.word), moves.owned))
    (Decides-and _ _ (Decides-and _ _ (Decides-and _ _ (Decides-eqb w.addr (index q p)) (Decides-eqb w.width q.index_width))
    (Decides-eqb w.value (index_word q far))) (decides-le far (end q p c)))
decides-moves (Tagged q) p c w =
    let S = slots_of q in
    Decides-like _ (λ both. record { tag = both.0; owned = both.1 }) (λ (moves : HandsOn S p c w). (moves.tag, moves.owned))
    (Decides-and _ _ (decides-tag S p (count p c) w) (Decides-ltb (count p c) (owned_end S p c)))

-- ---- stores of a hart, which is a party or none

abbrev pub MayStore : AnyQueue → Option Party → QueueCounts → Write → Type 0
MayStore q (Some p) c w = Moves q p c w ⊎ ((x : ℕ) → covers w x ≡ true → Outside q x ⊎ Owns q p c x)
MayStore q None c w = (x : ℕ) → covers w x ≡ true → Outside q x

pub decides-store : (q : AnyQueue) → HasSlot q → (t : Option Party) (c : QueueCounts) (w : Write) → Decides (keeps_store q t c w) (MayStore q t c w)
decides-store q some (Some p) c w = Decides-or _ _ (decides-moves q p c w)
    (decides-bytes_of q (owned_by q (Some p) c) (λ x. Outside q x ⊎ Owns q p c x)
    (λ x. Decides-or _ _ (decides-outside q x) (decides-owns q some p c x)) w)
decides-store q some None c w = decides-bytes_of q None (Outside q) (λ x. Decides-at _ _ (or-false (is_outside q x)) (decides-outside q x)) w

-- ---- accesses and entries

-- what the protocol asks of an access
abbrev KeepsBy : AnyQueue → Option Party → QueueCounts → Access → Type 0
KeepsBy (Indexed q) t c x = KeepsAccess q t c x
KeepsBy (Tagged q) t c x = TellsAccess (slots_of q) t c x

decides-exchange : (q : AnyQueue) → HasSlot q → (t : Option Party) (c : QueueCounts) (a old new : ℕ)
    → Decides (new == old || keeps_store q t (access_counts q t (load a 4 old) c) (write a 4 new))
    ((new ≡ old) ⊎ MayStore q t (access_counts q t (load a 4 old) c) (write a 4 new))
decides-exchange q some t c a old new =
    Decides-or _ _ (Decides-eqb new old) (decides-store q some t (access_counts q t (load a 4 old) c) (write a 4 new))

decides-access : (q : AnyQueue) → HasSlot q → (t : Option Party) (c : QueueCounts) (x : Access) → Decides (keeps_access q t c x) (KeepsBy q t c x)
decides-access (Indexed q) some (Some p) c (store w) = decides-store (Indexed q) some (Some p) c w
decides-access (Indexed q) some None c (store w) = decides-store (Indexed q) some None c w
decides-access (Indexed q) some (Some p) c (exchange a old new) = decides-exchange (Indexed q) some (Some p) c a old new
decides-access (Indexed q) some None c (exchange a old new) = decides-exchange (Indexed q) some None c a old new
decides-access (Tagged q) some (Some p) c (store w) = decides-store (Tagged q) some (Some p) c w
decides-access (Tagged q) some None c (store w) = decides-store (Tagged q) some None c w
decides-access (Tagged q) some (Some p) c (exchange a old new) =
    decides-store (Tagged q) some (Some p) (access_counts (Tagged q) (Some p) (load a 4 old) c) (write a 4 new)
decides-access (Tagged q) some None c (exchange a old new) = decides-store (Tagged q) some None c (write a 4 new)
decides-access q some t c x = (λ ok. tt, λ keeps. refl)

pub decides-entry : (q : AnyQueue) → HasSlot q → (c : QueueCounts) (e : Entry) → Decides (keeps_entry q c e) (KeepsOne q c e)
decides-entry (Indexed q) some c e = decides-access (Indexed q) some (party_for (Indexed q) (hart_of e)) c (access_of e)
decides-entry (Tagged q) some c e = decides-access (Tagged q) some (party_for (Tagged q) (hart_of e)) c (access_of e)

-- the entries of a run keep it exactly where each does
pub keeps-each : (q : AnyQueue) (c : QueueCounts) (es : List Entry) → Keeps q c es → KeepsEach (entry_counts q) (KeepsOne q) c es
keeps-each (Indexed q) c es keeps = keeps
keeps-each (Tagged q) c es keeps = keeps

pub each-keeps : (q : AnyQueue) (c : QueueCounts) (es : List Entry) → KeepsEach (entry_counts q) (KeepsOne q) c es → Keeps q c es
each-keeps (Indexed q) c es keeps = keeps
each-keeps (Tagged q) c es keeps = keeps
