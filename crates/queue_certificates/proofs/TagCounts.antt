-- What single accesses make of the counts of a queue whose slots tell, and of a party's share.
use Rattle.std.proofs.Common.{ℕ, ◌+◌, ◌-◌, ◌<◌, ◌≤◌, ◌≡◌, true, if◌then◌else◌, Option, Some, None, List, ◌∷◌, refl, sym, ◌∙◌, ap, subst, arith}
use Rattle.memory.specs.declared.writes.Write.{Write}
use Rattle.memory.specs.Writes.{write}
use Rattle.memory.proofs.Bytes.{covers-from}
use Rattle.step_machine.specs.Access.{load, store, exchange}
use Rattle.queue_parties.specs.Parties.{Party, QueueCounts, count, known}
use Rattle.queue_parties.proofs.Parties.{count-set, count-set-known}
use Rattle.slots_that_tell.specs.Slots.{Slots, IsSlots, tag_of, KeepsOff}
use Rattle.slots_that_tell.specs.Telling.{owned_end, told, moved, after_load, after_store, told_access, FillsOwned, TellsAccess}
use Rattle.slots_that_tell.proofs.Places.{moved-leaves, fills-leaves}
use Rattle.slots_that_tell.proofs.Owned.{loaded-count, grows-load, stored-end}
use Rattle.queue_certificates.proofs.ToldAccesses.{tag_loaded, told_owns, knows_of}
use Rattle.queue_certificates.specs.{Form, form_value, number, plus, lifted, Bounds, Share, HasAtLeast, is_beside_slots}
use Rattle.queue_layouts.specs.Tagged.{slots_of}
use Rattle.queue_layouts.specs.declared.tagged.TaggedQueue.{TaggedQueue}
use Rattle.queue_certificates.proofs.Forms.{value-plus, value-number, value-lifted}
use Rattle.queue_certificates.proofs.Stores.{same-count}
use Rattle.queue_certificates.proofs.TagPlaces.{beside-outside}
use Rattle.queue_certificates.proofs.TagShares.{IsSameShare, same-least}

-- ---- stores beside tags

pub fills-same : (q : Slots) → IsSlots q → (p : Party) (c : QueueCounts) (w : Write) → FillsOwned q p c w → after_store q p w c ≡ c
fills-same q is p c w fills = same-count p c (moved q (count p c) w) (moved-leaves q is (count p c) w (fills-leaves q is p c w fills))

pub beside-keeps : (q : TaggedQueue) (is : IsSlots (slots_of q)) (b : Bounds) (a width v : ℕ) → is_beside_slots q b width ≡ true → b.low ≤ a → a ≤ b.high
    → KeepsOff (slots_of q) (write a width v)
beside-keeps q is b a width v ok low high x on = beside-outside q is b a width x ok low high (covers-from (write a width v) x on)

-- ---- an AMO is a load and then a store

pub exchange-tells : (q : Slots) (r : Option Party) (a old new : ℕ) (c : QueueCounts)
    → TellsAccess q r (told_access q r (load a 4 old) c) (store (write a 4 new)) → TellsAccess q r c (exchange a old new)
exchange-tells q None a old new c may = may
exchange-tells q (Some p) a old new c may = may

pub exchange-counts : (q : Slots) (r : Option Party) (a old new : ℕ) (c : QueueCounts)
    → told_access q r (exchange a old new) c ≡ told_access q r (store (write a 4 new)) (told_access q r (load a 4 old) c)
exchange-counts q None a old new c = refl
exchange-counts q (Some p) a old new c = refl

-- ---- what becomes of a share

module _ (q : TaggedQueue) (is : IsSlots (slots_of q)) (p : Party) (c : QueueCounts) (xs ys : List ℕ) (s : Share) (has : HasAtLeast q p c xs s) where
  -- any load leaves it
  pub load-kept : (a width v : ℕ) (t : Share) → IsSameShare xs ys s t → HasAtLeast q p (after_load (slots_of q) p a width v c) ys t
  load-kept a width v t same =
      let one : count p (after_load (slots_of q) p a width v c) ≡ count p c = loaded-count (slots_of q) p p a width v c in
      let two = (grows-load (slots_of q) p a width v c).knows p in
      let kept = same-least q p c xs ys s t same has in record {
        own = one ∙ kept.own;
        upto = omega (arith, kept.upto, two);
      }

  -- a load of a whole tag, of a number that tells the party of its position
  pub load-told : (v j : ℕ) → j < q.size → (slots_of q).tells p (count p c + j) v ≡ true → (f : Form) → form_value f ys ≡ form_value s.own xs
      → HasAtLeast q p (after_load (slots_of q) p (tag_of (slots_of q) (count p c + j)) q.tag_width v c) ys (record { own = f; owned = number (j + 1) })
  load-told v j near tells f same =
      let whole : after_load (slots_of q) p (tag_of (slots_of q) (count p c + j)) q.tag_width v c ≡ knows_of (slots_of q) is p c (count p c + j) =
      tag_loaded (slots_of q) is p c (count p c + j) v (omega arith) (omega (arith, near))
      ∙ ap (λ b. if b then knows_of (slots_of q) is p c (count p c + j) else c) tells in
      let owns : count p c + j < owned_end (slots_of q) p (knows_of (slots_of q) is p c (count p c + j)) = told_owns (slots_of q) is p c (count p c + j) in
      subst (λ d. HasAtLeast q p d ys (record { own = f; owned = number (j + 1) })) (sym whole) (record {
        own = count-set-known p p (known p c + (told (slots_of q) p (count p c + j) - known p c)) c ∙ has.own ∙ sym same;
        upto = omega (arith, has.own, same, owns);
      })

  -- a store of the own tag hands one position over
  pub store-handed : (w : Write) (y : ℕ) → moved (slots_of q) (count p c) w ≡ count p c + 1 → 1 ≤ s.owned.constant
      → HasAtLeast q p (after_store (slots_of q) p w c) (y ∷ xs)
      (record { own = plus (lifted s.own) (number 1); owned = number (s.owned.constant - 1) })
  store-handed w y once some =
      let own : form_value (plus (lifted s.own) (number 1)) (y ∷ xs) ≡ count p c + 1 =
      value-plus (lifted s.own) (number 1) (y ∷ xs) ∙ ap (λ n. n + form_value (number 1) (y ∷ xs)) (value-lifted s.own y xs ∙ sym has.own)
      ∙ ap (λ n. count p c + n) (value-number 1 (y ∷ xs)) in
      let end : owned_end (slots_of q) p (after_store (slots_of q) p w c) ≡ owned_end (slots_of q) p c = stored-end (slots_of q) p p w c in record {
        own = count-set p (moved (slots_of q) (count p c) w) c ∙ once ∙ sym own;
        upto = omega (arith, own, end, has.own, has.upto, some);
      }
