-- Stores, and those of AMOs, where there are queues with tags: a party may make them, and which shares are then right.
use Rattle.std.proofs.Common.{ℕ, ◌+◌, ◌<◌, ◌≤◌, ◌≡◌, ◌&&◌, ◌||◌, inl, inr, if◌then◌else◌, Bool, true, false, Option, Some, None, List, [], ◌∷◌, length, get_or}
use Rattle.std.proofs.Common.{refl, sym, ◌∙◌, ap, subst, arith}
use Rattle.std.specs.Prelude.{map, nat_le, nat_lt}
use Rattle.std.proofs.lemmas.Bool.{and_parts, or_cases, leb-true, ltb-true, eq-eqb, ne_eqb}
use Rattle.rv_decode.specs.declared.instruction.StoreOp.{StoreOp}
use Rattle.memory.specs.declared.writes.Write.{Write}
use Rattle.memory.specs.Writes.{write}
use Rattle.memory.proofs.Bytes.{covers-from, covers-yes}
use Rattle.hart.specs.{HartState, stored, store_width}
use Rattle.step_machine.specs.Access.{store}
use Rattle.slot_queue.specs.Queues.{Queue}
use Rattle.queue_parties.specs.Parties.{Party, the_sender, other, count}
use Rattle.slots_that_tell.specs.{IsSlots, tag_of, tagged_slot, MovesOn, MayStore, moved, teller_hart, told_access, TellsAccess, FillsOwned}
use Rattle.slots_that_tell.proofs.Owned.{mine-of}
use Rattle.slots_that_tell.proofs.Places.{moved-leaves, fills-leaves}
use Rattle.queue_certificates.proofs.ToldAccesses.{moves}
use Rattle.queue_certificates.specs.{OwnWord, View, AllCounts, InRanges, Bounds, KnownValue, linear, Share}
use Rattle.queue_certificates.specs.{no_share, KnownState, Has, is_just, is_owned, position_at, offset_at, bare, party_in, is_tagged, HasAtLeast, with_share}
use Rattle.queue_certificates.specs.{AreTold, is_beside_slots, is_of_rest, tag_at, tag_by, moved_tag, may_tell, may_store_all, hands_over, handed, all_handed}
use Rattle.queue_certificates.specs.{filled_by, tag_effect_at, Effect, Leaves, Fills, Publishes}
use Rattle.queue_layouts.specs.Tagged.{slots_of}
use Rattle.queue_layouts.specs.declared.tagged.TaggedQueue.{TaggedQueue}
use Rattle.queue_certificates.proofs.Steps.{IsAmong}
use Rattle.queue_certificates.proofs.TagPlaces.{IsTagAt, tag-place, of-rest}
use Rattle.queue_certificates.proofs.Accesses.{found-below, just-is}
use Rattle.queue_certificates.proofs.Stores.{slot-place, position-near}
use Rattle.queue_certificates.proofs.Effects.{IsSent, Sends, sent-sends}
use Rattle.queue_certificates.proofs.TagValues.{store-tells}
use Rattle.queue_certificates.proofs.TagCounts.{store-handed, beside-keeps, fills-same}
use Rattle.queue_certificates.proofs.TagShares.{tagged-is, tagged-fine, teller-is}
use Rattle.queue_certificates.proofs.TagKept.{AllKeep}
use Rattle.queue_certificates.proofs.States.{at-below}
use Rattle.queue_certificates.proofs.TagNext.{IsAmongTold, told_by, Stays, among-kept, set-means, set-told, same-stays}

module _ (tagged : ℕ → TaggedQueue) (T : ℕ) (queues : ℕ → Queue) (N : ℕ) (own_of : ℕ → List OwnWord) (H h : ℕ) (xs : List ℕ) (k : KnownState) (us : AllCounts)
    (are : (t : ℕ) → t < T → is_tagged (tagged t) ≡ true) (told : AreTold tagged T N h xs k us) (ranges : InRanges k.ranges xs)
    (op : StoreOp) (place u : KnownValue) (b : Bounds) (a x : ℕ) (at-place : Has queues xs place a) (low : b.low ≤ a) (high : a ≤ b.high)
    (has-x : Has queues xs u x) (move : Option ℕ) (moved-is : moved_tag tagged T N h k place (store_width op) ≡ move)
    (may : may_store_all tagged T N h k u place b (store_width op) move ≡ true) where
  abbrev width : ℕ
  width = store_width op

  abbrev w : Write
  w = write a (store_width op) (stored op x)

  is-slots : (t : ℕ) → t < T → IsSlots (slots_of (tagged t))
  is-slots t less = tagged-fine (tagged t) (are t less)

  -- beside the slots, or in the rest of owned ones
  abbrev IsClear : (t : ℕ) → Type 0
  IsClear t = (is_beside_slots (tagged t) b width || is_of_rest k.ranges (tagged t) (get_or k.shares (N + t) no_share) place width) ≡ true

  clear-fills : (t : ℕ) → t < T → (p : Party) → h ≡ teller_hart (slots_of (tagged t)) p → IsClear t
      → FillsOwned (slots_of (tagged t)) p (us t) w
  clear-fills t less p at ok y on = elim (or_cases (is_beside_slots (tagged t) b width)
      (is_of_rest k.ranges (tagged t) (get_or k.shares (N + t) no_share) place width) ok) [
        | inl off ↦ inl (beside-keeps (tagged t) (is-slots t less) b a width (stored op x) off low high y on)
        | inr rest ↦ inr (of-rest (tagged t) (is-slots t less) queues k.ranges xs ranges (get_or k.shares (N + t) no_share) p (us t) (told t less p at)
            place a width y at-place rest (covers-from (write a (store_width op) (stored op x)) y on))
      ]

  party-is : (t : ℕ) → t < T → (p : Party) → h ≡ teller_hart (slots_of (tagged t)) p → party_in (tagged t) h ≡ Some p
  party-is t less p at = teller-is (slots_of (tagged t)) (is-slots t less) h p at

  hart-is : (t : ℕ) → t < T → (p : Party) → party_in (tagged t) h ≡ Some p → h ≡ teller_hart (slots_of (tagged t)) p
  hart-is t less p party = mine-of (slots_of (tagged t)) (is-slots t less) p h party

  may-at : (t : ℕ) → t < T → (r : Option Party) → party_in (tagged t) h ≡ r → may_tell tagged N k r u place b width move t ≡ true
  may-at t less r party = subst (λ r. may_tell tagged N k r u place b width move t ≡ true) party
      (at-below T (λ t. may_tell tagged N k (party_in (tagged t) h) u place b width move t) may t less)

  clear-at : (t : ℕ) → t < T → (p : Party) → party_in (tagged t) h ≡ Some p → is_just move t ≡ false → IsClear t
  clear-at t less p party other = by (is_just move t) other (may-at t less (Some p) party)
    where
      by : (c : Bool) → c ≡ false
          → (if c then nat_le 1 (get_or k.shares (N + t) no_share).owned.constant && nat_lt (N + t) (length k.shares)
          && hands_over k.ranges (tagged t) (tagged t).codec p (get_or k.shares (N + t) no_share).own u
          else (is_beside_slots (tagged t) b width || is_of_rest k.ranges (tagged t) (get_or k.shares (N + t) no_share) place width)) ≡ true
          → IsClear t
      by true said ok = absurd (cc)
      by false said ok = ok

  -- of the whole tag of the own position
  record Hands (t : ℕ) (p : Party) : Type 0 where
    pub on : MovesOn (slots_of (tagged t)) p (us t) w
    pub once : moved (slots_of (tagged t)) (count p (us t)) w ≡ count p (us t) + 1
    pub owned : 1 ≤ (get_or k.shares (N + t) no_share).owned.constant
    pub listed : N + t < length k.shares

  hands : (t : ℕ) → t < T → (p : Party) → party_in (tagged t) h ≡ Some p → is_just move t ≡ true → Hands t p
  hands t less p party just = by (is_just move t) just (may-at t less (Some p) party)
    where
      has : HasAtLeast (tagged t) p (us t) xs (get_or k.shares (N + t) no_share)
      has = told t less p (hart-is t less p party)

      found : tag_at tagged T N h k place width t ≡ Some 0
      found = just-is (tag_at tagged T N h k place width t) 0
          (found-below T (λ t. is_just (tag_at tagged T N h k place width t) 0) t (moved-is ∙ just-is move t just)).1

      at : IsTagAt (tagged t) (is-slots t less) queues k.ranges xs ranges (get_or k.shares (N + t) no_share) (count p (us t)) has.own a width 0
      at = tag-place (tagged t) (is-slots t less) queues k.ranges xs ranges (get_or k.shares (N + t) no_share) (count p (us t)) has.own place a width 0
          at-place (sym (ap (λ r. tag_by tagged N k r place width t) party) ∙ found)

      by : (c : Bool) → c ≡ true
          → (if c then nat_le 1 (get_or k.shares (N + t) no_share).owned.constant && nat_lt (N + t) (length k.shares)
          && hands_over k.ranges (tagged t) (tagged t).codec p (get_or k.shares (N + t) no_share).own u
          else (is_beside_slots (tagged t) b width || is_of_rest k.ranges (tagged t) (get_or k.shares (N + t) no_share) place width)) ≡ true
          → Hands t p
      by false said ok = absurd (cc)
      by true said ok =
          let p2 = and_parts (nat_le 1 (get_or k.shares (N + t) no_share).owned.constant && nat_lt (N + t) (length k.shares))
          (hands_over k.ranges (tagged t) (tagged t).codec p (get_or k.shares (N + t) no_share).own u) ok in
          let p1 = and_parts (nat_le 1 (get_or k.shares (N + t) no_share).owned.constant) (nat_lt (N + t) (length k.shares)) p2.0 in
          let one : 1 ≤ (get_or k.shares (N + t) no_share).owned.constant = leb-true 1 (get_or k.shares (N + t) no_share).owned.constant p1.0 in
          let m = moves (slots_of (tagged t)) (is-slots t less) p (us t) w
          (at.place ∙ ap (tag_of (slots_of (tagged t))) (let z : count p (us t) + 0 ≡ count p (us t) = omega arith in z)) at.whole
          (store-tells queues xs (get_or k.shares (N + t) no_share).own (count p (us t)) has.own (tagged t) k.ranges ranges
          (tagged-is (tagged t) (are t less)).codec op x u at.whole has-x p p2.1) (omega (arith, has.own, has.upto, one)) in record {
            on = m.0;
            once = m.1;
            owned = one;
            listed = ltb-true (N + t) (length k.shares) p1.1;
          }

  pub store-may : (t : ℕ) → t < T → TellsAccess (slots_of (tagged t)) (party_in (tagged t) h) (us t) (store w)
  store-may t less = by (party_in (tagged t) h) refl
    where
      by : (r : Option Party) → party_in (tagged t) h ≡ r → TellsAccess (slots_of (tagged t)) r (us t) (store w)
      by None party = beside-keeps (tagged t) (is-slots t less) b a width (stored op x) (may-at t less None party) low high
      by (Some p) party = by-move (is_just move t) refl
        where
          by-move : (c : Bool) → is_just move t ≡ c → MayStore (slots_of (tagged t)) p (us t) w
          by-move true just = inl (hands t less p party just).on
          by-move false other = inr (clear-fills t less p (hart-is t less p party) (clear-at t less p party other))

  left-stays : (t : ℕ) → t < T → is_just move t ≡ false → Stays tagged T queues N own_of H h xs k (told_by tagged T queues N own_of H h (store w) us) t
  left-stays t less other = same-stays tagged T queues N own_of H h xs k us are told (store w) t less (λ p at.
      fills-same (slots_of (tagged t)) (is-slots t less) p (us t) w (clear-fills t less p at (clear-at t less p (party-is t less p at) other)))

  -- one position is handed over, or none
  pub store-among : (ks : List KnownState) (z : HartState) (m : View) (cs : AllCounts) → AllKeep N k ks → IsAmong queues N own_of h xs ks z m cs
      → IsAmongTold tagged T queues N own_of H h xs (all_handed N k move ks) z m cs
      (told_by tagged T queues N own_of H h (store w) us)
  store-among ks z m cs keeps w-in = by move refl
    where
      by : (o : Option ℕ) → move ≡ o → IsAmongTold tagged T queues N own_of H h xs (all_handed N k o ks) z m cs
          (told_by tagged T queues N own_of H h (store w) us)
      by None none = among-kept tagged T queues N own_of H h xs k ks z m cs (told_by tagged T queues N own_of H h (store w) us)
          (λ t less. left-stays t less (ap (λ o. is_just o t) none)) keeps w-in
      by (Some t) is = each ks keeps w-in
        where
          f : (t < T) × (is_just (tag_at tagged T N h k place width t) 0 ≡ true)
          f = found-below T (λ t. is_just (tag_at tagged T N h k place width t) 0) t (moved-is ∙ is)

          just : is_just move t ≡ true
          just = ap (λ o. is_just o t) is ∙ eq-eqb t t refl

          here : (p : Party) → party_in (tagged t) h ≡ Some p → Hands t p
          here p party = hands t f.0 p party just

          listed : N + t < length k.shares
          listed = at (party_in (tagged t) h) refl
            where
              at : (r : Option Party) → party_in (tagged t) h ≡ r → N + t < length k.shares
              at (Some p) party = (here p party).listed
              at None party = absurd (let no : is_just None 0 ≡ true =
                  sym (ap (λ r. is_just (tag_by tagged N k r place width t) 0) party) ∙ f.1 in cc)

          given : (x : ℕ) (p : Party) → h ≡ teller_hart (slots_of (tagged t)) p
              → HasAtLeast (tagged t) p (told_by tagged T queues N own_of H h (store w) us t) (x ∷ xs)
              (handed (get_or k.shares (N + t) no_share))
          given x p at =
              let hand = here p (party-is t f.0 p at) in
              subst (λ r. HasAtLeast (tagged t) p (told_access (slots_of (tagged t)) r (store w) (us t)) (x ∷ xs)
              (handed (get_or k.shares (N + t) no_share))) (sym (party-is t f.0 p at))
              (store-handed (tagged t) (is-slots t f.0) p (us t) xs (x ∷ xs) (get_or k.shares (N + t) no_share) (told t f.0 p at) w x hand.once hand.owned)

          each : (ks : List KnownState) → AllKeep N k ks → IsAmong queues N own_of h xs ks z m cs
              → IsAmongTold tagged T queues N own_of H h xs
              (map (with_share (N + t) (handed (get_or k.shares (N + t) no_share))) ks) z m cs
              (told_by tagged T queues N own_of H h (store w) us)
          each [] keeps w-in = absurd w-in
          each (j ∷ ks) keeps (inr w-in) = inr (each ks keeps.1 w-in)
          each (j ∷ ks) keeps (inl w-in) = inl (
            w-in.0,
            set-means tagged T queues N own_of H h xs k t (handed (get_or k.shares (N + t) no_share)) j (w-in.0 ∷ xs) z m cs
                w-in.1,
            set-told tagged T queues N own_of H h xs k t (handed (get_or k.shares (N + t) no_share)) j w-in.0
                (told_by tagged T queues N own_of H h (store w) us) keeps.0
                (λ i under far. left-stays i under (ap (λ o. is_just o i) is ∙ ne_eqb t i (λ same. far (sym same))))
                (λ past. absurd (omega (arith, past, listed))) (given w-in.0),
          )

  -- what the store makes of a party's count
  pub store-counts : (t : ℕ) → t < T → (p : Party) → h ≡ teller_hart (slots_of (tagged t)) p → (c : Bool) → is_just move t ≡ c
      → moved (slots_of (tagged t)) (count p (us t)) w ≡ (if c then count p (us t) + 1 else count p (us t))
  store-counts t less p at true just = (hands t less p (party-is t less p at) just).once
  store-counts t less p at false other = moved-leaves (slots_of (tagged t)) (is-slots t less) (count p (us t)) w
      (fills-leaves (slots_of (tagged t)) (is-slots t less) p (us t) w (clear-fills t less p at (clear-at t less p (party-is t less p at) other)))

  -- of a queue of which the hart is the sender: what it publishes, and the bytes of a slot that it writes
  module _ (t : ℕ) (less : t < T) (at : h ≡ (tagged t).sender) where
    abbrev its : Share
    its = get_or k.shares (N + t) no_share

    abbrev Sent : (m : ℕ) → Effect → Type 0
    Sent m f = IsSent (tagged t).size (tagged_slot (slots_of (tagged t))) (us t).published m f (store w)

    party : party_in (tagged t) h ≡ Some the_sender
    party = party-is t less the_sender at

    has-its : HasAtLeast (tagged t) the_sender (us t) xs (get_or k.shares (N + t) no_share)
    has-its = told t less the_sender at

    fills : (pl : KnownValue) → Has queues xs pl a → (m : ℕ) → m ≡ (us t).published → Sent m (filled_by k.ranges (bare (tagged t)) its pl width)
    fills (linear f) at-pl m same = by (is_owned k.ranges (bare (tagged t)) its (linear f) width) refl
      where
        by : (c : Bool) → is_owned k.ranges (bare (tagged t)) its (linear f) width ≡ c
            → Sent m (if c then Fills (position_at (bare (tagged t)) its.own.constant f.constant) (offset_at (bare (tagged t)) f.constant) width else Leaves)
        by false is = same
        by true is =
            let there = slot-place (bare (tagged t)) k.ranges xs ranges its.own f (us t).published
            (position_at (bare (tagged t)) its.own.constant f.constant) (offset_at (bare (tagged t)) f.constant) a has-its.own at-pl
            (and_parts _ _ is).1 in (
              same,
              position-near (bare (tagged t)) (is-slots t less).some its.own.constant f.constant,
              λ n from below. covers-yes (write a (store_width op) (stored op x))
                  (tagged_slot (slots_of (tagged t)) ((us t).published + position_at (bare (tagged t)) its.own.constant f.constant) + n)
                  (omega (arith, there, from)) (omega (arith, there, below)),
            )
    fills other at-pl m same = same

    by-move : (c : Bool) → is_just move t ≡ c → (m : ℕ) → m ≡ moved (slots_of (tagged t)) (us t).published w
        → Sent m (if c then Publishes 1 else filled_by k.ranges (bare (tagged t)) its place width)
    by-move true just m is = is ∙ store-counts t less the_sender at true just
    by-move false other m is = fills place at-place m (is ∙ store-counts t less the_sender at false other)

    pub store-sends : (z : HartState) → Sends (tagged t).size (tagged_slot (slots_of (tagged t))) (us t).published
        (told_access (slots_of (tagged t)) (party_in (tagged t) h) (store w) (us t)).published (tag_effect_at tagged T N h t k place width) (store w) z
    store-sends z = sent-sends (tagged t).size (tagged_slot (slots_of (tagged t))) (us t).published
        (told_access (slots_of (tagged t)) (party_in (tagged t) h) (store w) (us t)).published (tag_effect_at tagged T N h t k place width) (store w) z
        (subst (λ o. Sent (told_access (slots_of (tagged t)) (party_in (tagged t) h) (store w) (us t)).published
        (if is_just o t then Publishes 1 else filled_by k.ranges (bare (tagged t)) its place width)) (sym moved-is)
        (by-move (is_just move t) refl _ (ap (λ r. (told_access (slots_of (tagged t)) r (store w) (us t)).published) party)))
