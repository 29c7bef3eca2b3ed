-- A hart's shares of queues with tags: where a run opens, after a state's forms are changed, in its cases, and where an arrow leads.
use Rattle.std.proofs.Common.{ℕ, zero, suc, ◌+◌, ◌-◌, ◌*◌, ◌%◌, ◌^◌, ◌<◌, ◌≤◌, ◌≡◌, ◌≢◌, ◌==◌, ◌&&◌, ◌||◌, ◌⊎◌, inl, inr, not, true, false, Option, Some, List}
use Rattle.std.proofs.Common.{[], ◌∷◌, length, get_or, refl, sym, ◌∙◌, ap, subst, arith}
use Rattle.std.specs.Prelude.{map, nat_le, nat_lt}
use Rattle.std.proofs.lemmas.Bool.{and_parts, or_cases, eqb-true, eqb-false, leb-true, not-true}
use Rattle.std.proofs.lemmas.List.Elements.{All-nil}
use Rattle.step_machine.specs.History.{OpeningValue}
use Rattle.store_buffers.specs.StoreBuffers.{memory_number}
use Rattle.queue_parties.specs.Parties.{Party, the_sender, the_receiver, other, QueueCounts, all_at, count, known}
use Rattle.queue_parties.proofs.Parties.{Whose, mine, theirs, whose, two, harts-apart, both-equal}
use Rattle.certified_runs.specs.TwoParties.{AllCounts, IsSameFor}
use Rattle.slot_queue.specs.Queues.{Queue}
use Rattle.slots_that_tell.specs.Slots.{Slots, IsSlots, AreSlots, AreApart, gap, RestsAt, KeepsOff, tag_of}
use Rattle.slots_that_tell.specs.Telling.{teller_of, teller_hart, owned_end}
use Rattle.slots_that_tell.proofs.Codecs.{zero_differs, numbered_differs, bits_differ, phases_differ}
use Rattle.queue_certificates.specs.{OwnWord, telling, Form, form_value, substituted, raised, settled, is_same, InRanges, most, fits_in, Share, no_share}
use Rattle.queue_certificates.specs.{KnownState, share_by, state_by, QueueCertificate, tagged_at, tagged_start, SharesTold, opens_all_told, leads_to}
use Rattle.queue_certificates.specs.{arrow_leads, opens_told, opens_free, at_most, beyond, range_changed, with_low, with_high, party_in, are_slots}
use Rattle.queue_certificates.specs.{are_apart_from_slots, is_codec, tells_both, is_tagged, HasAtLeast, AreTold, covers_share, tags_lead}
use Rattle.queue_layouts.specs.Tagged.{slots_of, tells_by}
use Rattle.queue_layouts.specs.declared.tagged.Codec.{Codec}
use Rattle.queue_layouts.specs.declared.tagged.Codec.TheVariants as codec
use Rattle.queue_layouts.specs.declared.tagged.TaggedQueue.{TaggedQueue}
use Rattle.queue_certificates.proofs.Forms.{values_of, value-substituted, value-raised, same-exactly, less_at}
use Rattle.queue_certificates.proofs.Bounds.{value-below, fits-below, value-settled}
use Rattle.queue_certificates.proofs.States.{at-below, low-range, high-range}

-- ---- a queue with tags is one whose slots tell

pub record IsFine (q : TaggedQueue) : Type 0 where
  pub parties : q.sender ≢ q.receiver
  pub some : 1 ≤ q.size
  pub some_bytes : 1 ≤ q.tag_width
  pub small : q.tag_width ≤ 4
  pub within : q.tag_offset + q.tag_width ≤ q.tag_stride
  pub lie : AreSlots (slots_of q) ⊎ AreApart (slots_of q)
  pub codec : is_codec q q.codec ≡ true

pub tagged-is : (q : TaggedQueue) → is_tagged q ≡ true → IsFine q
tagged-is q ok =
    let p7 = and_parts (not (q.sender == q.receiver) && nat_le 1 q.size && nat_le 1 q.tag_width && nat_le q.tag_width 4
    && nat_le (q.tag_offset + q.tag_width) q.tag_stride && (are_slots q || are_apart_from_slots q) && is_codec q q.codec) (tells_both q.codec) ok in
    let p6 = and_parts (not (q.sender == q.receiver) && nat_le 1 q.size && nat_le 1 q.tag_width && nat_le q.tag_width 4
    && nat_le (q.tag_offset + q.tag_width) q.tag_stride && (are_slots q || are_apart_from_slots q)) (is_codec q q.codec) p7.0 in
    let p5 = and_parts (not (q.sender == q.receiver) && nat_le 1 q.size && nat_le 1 q.tag_width && nat_le q.tag_width 4
    && nat_le (q.tag_offset + q.tag_width) q.tag_stride) (are_slots q || are_apart_from_slots q) p6.0 in
    let p4 = and_parts (not (q.sender == q.receiver) && nat_le 1 q.size && nat_le 1 q.tag_width && nat_le q.tag_width 4)
    (nat_le (q.tag_offset + q.tag_width) q.tag_stride) p5.0 in
    let p3 = and_parts (not (q.sender == q.receiver) && nat_le 1 q.size && nat_le 1 q.tag_width) (nat_le q.tag_width 4) p4.0 in
    let p2 = and_parts (not (q.sender == q.receiver) && nat_le 1 q.size) (nat_le 1 q.tag_width) p3.0 in
    let p1 = and_parts (not (q.sender == q.receiver)) (nat_le 1 q.size) p2.0 in record {
      parties = eqb-false q.sender q.receiver (not-true (q.sender == q.receiver) p1.0);
      some = leb-true 1 q.size p1.1;
      some_bytes = leb-true 1 q.tag_width p2.1;
      small = leb-true q.tag_width 4 p3.1;
      within = leb-true (q.tag_offset + q.tag_width) q.tag_stride p4.1;
      lie = elim (or_cases (are_slots q) (are_apart_from_slots q) p5.1) [
        | inl same ↦ inl (both-equal q.tags q.slots q.tag_stride q.width same)
        | inr apart ↦ inr (elim (or_cases (nat_le (q.slots + q.size * q.width) q.tags) (nat_le (q.tags + q.size * q.tag_stride) q.slots) apart) [
          | inl after ↦ inl (leb-true (q.slots + q.size * q.width) q.tags after)
          | inr before ↦ inr (leb-true (q.tags + q.size * q.tag_stride) q.slots before)
        ])
      ];
      codec = p6.1;
    }

pub tagged-fine : (q : TaggedQueue) → is_tagged q ≡ true → IsSlots (slots_of q)
tagged-fine q tagged = let is = tagged-is q tagged in record {
  parties = is.parties;
  some = is.some;
  some_bytes = is.some_bytes;
  tag_within = is.within;
  tags_lie = is.lie;
  differ = by q.codec is.codec;
}
  where
    unlike : (a b : ℕ) → not (a == b) ≡ true → a ≢ b
    unlike a b ok = eqb-false a b (not-true (a == b) ok)

    by : (c : Codec) → is_codec q c ≡ true → (p : Party) (k v : ℕ) → tells_by q.size c p k v ≡ true
        → tells_by q.size c (other p) (k + gap (slots_of q) p) v ≡ false
    by codec.Zero ok = zero_differs (slots_of q)
    by codec.Number ok =
        let parts = and_parts (q.tag_width == 4) (not (q.size % 2 ^ 32 == 1)) ok in
        numbered_differs (2 ^ 32) (omega arith) (slots_of q) (unlike (q.size % 2 ^ 32) 1 parts.1)
    by (codec.Bit mask free full) ok =
        let parts = and_parts (nat_lt mask (256 ^ q.tag_width)) (not (free == full)) ok in
        bits_differ mask free full (unlike free full parts.1) (slots_of q)
    by (codec.Phases mask free full odd_free odd_full) ok =
        let fits = nat_lt mask (256 ^ q.tag_width) in
        let p3 = and_parts (fits && not (free == full) && not (full == odd_free) && not (odd_free == odd_full)) (not (odd_full == free)) ok in
        let p2 = and_parts (fits && not (free == full) && not (full == odd_free)) (not (odd_free == odd_full)) p3.0 in
        let p1 = and_parts (fits && not (free == full)) (not (full == odd_free)) p2.0 in
        let p0 = and_parts fits (not (free == full)) p1.0 in
        phases_differ mask free full odd_free odd_full (unlike free full p0.1) (unlike full odd_free p1.1) (unlike odd_free odd_full p2.1)
        (unlike odd_full free p3.1) (slots_of q) (tagged-is q tagged).some

-- ---- shares

-- a share says the same over other variables
pub record IsSameShare (xs ys : List ℕ) (s t : Share) : Type 0 where
  pub own : form_value t.own ys ≡ form_value s.own xs
  pub owned : form_value t.owned ys ≡ form_value s.owned xs

pub same-least : (q : TaggedQueue) (p : Party) (c : QueueCounts) (xs ys : List ℕ) (s t : Share) → IsSameShare xs ys s t → HasAtLeast q p c xs s
    → HasAtLeast q p c ys t
same-least q p c xs ys s t same has = record {
  own = has.own ∙ sym same.own;
  upto = omega (arith, same.own, same.owned, has.upto);
}

pub same-by : (t : Form → Form) (xs ys : List ℕ) → ((f : Form) → form_value (t f) ys ≡ form_value f xs) → (ss : List Share) (i : ℕ)
    → IsSameShare xs ys (get_or ss i no_share) (get_or (map (share_by t) ss) i no_share)
same-by t xs ys same [] i = record { own = refl; owned = refl }
same-by t xs ys same (s ∷ ss) zero = record { own = same s.own; owned = same s.owned }
same-by t xs ys same (s ∷ ss) (suc i) = same-by t xs ys same ss i

-- ---- the opening

pub opens-free : (o : OpeningValue) (q : TaggedQueue) (start : ℕ) → is_tagged q ≡ true → opens_free o q start ≡ true → RestsAt (slots_of q) o [] (all_at start)
opens-free o q start is ok = record {
  window = record {
    known_published = omega arith;
    published = omega arith;
    known_taken = omega arith;
    taken = omega arith;
  };
  full = λ k from upto. absurd (omega (arith, from, upto));
  free = λ k from upto. (let place : start + (k - start) ≡ k = omega (arith, from) in
      subst (λ i. tells_by q.size q.codec the_sender i (memory_number o [] (tag_of (slots_of q) i) q.tag_width) ≡ true) place
      (at-below q.size (λ d. tells_by q.size q.codec the_sender (start + d) (memory_number o [] (tag_of (slots_of q) (start + d)) q.tag_width)) ok
      (k - start) (omega (arith, from, upto))));
  pending = λ h. All-nil (KeepsOff (slots_of q));
}

-- whose hart it is
pub teller-is : (q : Slots) → IsSlots q → (h : ℕ) (p : Party) → h ≡ teller_hart q p → teller_of q h ≡ Some p
teller-is q is h p at = by (whose q.sender q.receiver h)
  where
    by : Whose q.sender q.receiver h → teller_of q h ≡ Some p
    by (theirs far none) = absurd (far p at)
    by (mine r there of) = elim (two r p) [
      | inl same ↦ of ∙ ap (λ t. Some t) (sym same)
      | inr turned ↦ absurd (harts-apart q.sender q.receiver is.parties r (sym there ∙ at ∙ ap (teller_hart q) turned))
    ]

least-opens : (q : TaggedQueue) → is_tagged q ≡ true → (h start : ℕ) (s : Share) (xs : List ℕ) → opens_told q (party_in q h) start s xs ≡ true
    → (p : Party) → h ≡ teller_hart (slots_of q) p → HasAtLeast q p (all_at start) xs s
least-opens q fine h start s xs ok p at =
    let parts = and_parts (start == form_value s.own xs)
    (nat_le (form_value s.own xs + form_value s.owned xs) (owned_end (slots_of q) p (all_at start)))
    (subst (λ t. opens_told q t start s xs ≡ true) (teller-is (slots_of q) (tagged-fine q fine) h p at) ok) in record {
      own = count-all p start ∙ eqb-true start (form_value s.own xs) parts.0;
      upto = leb-true (form_value s.own xs + form_value s.owned xs) (owned_end (slots_of q) p (all_at start)) parts.1;
    }
  where
    count-all : (p : Party) (n : ℕ) → count p (all_at n) ≡ n
    count-all the_sender n = refl
    count-all the_receiver n = refl

pub told-opens : (c : QueueCertificate) (h : ℕ) (k : KnownState) (xs : List ℕ)
    → ((t : ℕ) → t < length c.tagged → is_tagged (tagged_at c t) ≡ true) → opens_all_told c h k xs ≡ true
    → SharesTold c h xs k (λ t. all_at (tagged_start c t))
told-opens c h k xs fine ok t less p at =
    least-opens (tagged_at c t) (fine t less) h (tagged_start c t) (get_or k.shares (length c.queues + t) no_share) xs
    (at-below (length c.tagged) (λ t. opens_told (tagged_at c t) (party_in (tagged_at c t) h) (tagged_start c t)
    (get_or k.shares (length c.queues + t) no_share) xs) ok t less) p at

-- ---- of all queues

module _ (tagged : ℕ → TaggedQueue) (T : ℕ) (queues : ℕ → Queue) (N : ℕ) (own_of : ℕ → List OwnWord) (H h : ℕ) where
  -- counts that are the same as far as the hart knows
  pub told-frame : (xs : List ℕ) (k : KnownState) (us vs : AllCounts) → AreTold tagged T N h xs k us
      → ((t : ℕ) → t < T → IsSameFor (telling (slots_of (tagged t))) h (us t) (vs t)) → AreTold tagged T N h xs k vs
  told-frame xs k us vs told same t less p at =
      let has = told t less p at in
      let one : count p (vs t) ≡ count p (us t) = (same t less).count p at in
      let two : known p (vs t) ≡ known p (us t) = (same t less).known p at in record {
        own = one ∙ has.own;
        upto = omega (arith, has.upto, two);
      }

  -- forms of the same values
  pub told-by : (t : Form → Form) (rs : List (Option ℕ)) (xs ys : List ℕ) → ((f : Form) → form_value (t f) ys ≡ form_value f xs) → (k : KnownState)
      (us : AllCounts) → AreTold tagged T N h xs k us → AreTold tagged T N h ys (state_by t rs k) us
  told-by t rs xs ys same k us told i less p at =
      same-least (tagged i) p (us i) xs ys (get_or k.shares (N + i) no_share) (get_or (map (share_by t) k.shares) (N + i) no_share)
      (same-by t xs ys same k.shares (N + i)) (told i less p at)

  -- ---- cases

  pub told-low : (xs : List ℕ) (k : KnownState) (us : AllCounts) (j v : ℕ) → InRanges k.ranges xs → get_or xs j 0 ≤ v
      → AreTold tagged T N h xs k us → AreTold tagged T N h xs (with_low k j v) us
  told-low xs k us j v ranges low told = told-by (settled (range_changed k.ranges j (at_most v))) (range_changed k.ranges j (at_most v)) xs xs
      (λ f. value-settled (range_changed k.ranges j (at_most v)) f xs (low-range queues N (own_of h) h k.ranges xs j v ranges low)) k us told

  pub told-high : (xs : List ℕ) (k : KnownState) (us : AllCounts) (j v : ℕ) → InRanges k.ranges xs → v < get_or xs j 0
      → AreTold tagged T N h xs k us → AreTold tagged T N h (less_at j (v + 1) xs) (with_high k j v) us
  told-high xs k us j v ranges high told =
      told-by (λ f. settled (range_changed k.ranges j (beyond v)) (raised j (v + 1) f)) (range_changed k.ranges j (beyond v)) xs (less_at j (v + 1) xs)
      (λ f. value-settled (range_changed k.ranges j (beyond v)) (raised j (v + 1) f) (less_at j (v + 1) xs)
      (high-range queues N (own_of h) h k.ranges xs j v ranges high) ∙ value-raised f j (v + 1) xs (omega (arith, high)) (omega arith)) k us told

  -- ---- arrows

  -- less may be said to be owned
  covered : (rs : List (Option ℕ)) (ys : List ℕ) → InRanges rs ys → (gs : List Form) (s t : Share) (q : TaggedQueue) (p : Party) (c : QueueCounts)
      → covers_share rs s t gs ≡ true → HasAtLeast q p c ys s → HasAtLeast q p c (values_of gs ys) t
  covered rs ys ranges gs s t q p c ok has =
      let parts = and_parts (is_same 0 s.own (substituted t.own gs)) (fits_in (most rs (substituted t.owned gs)) (Some s.owned.constant)) ok in
      let one : form_value s.own ys ≡ form_value t.own (values_of gs ys) =
      same-exactly s.own (substituted t.own gs) ys parts.0 ∙ value-substituted t.own gs ys in
      let low : form_value (substituted t.owned gs) ys ≤ s.owned.constant =
      fits-below (most rs (substituted t.owned gs)) (Some s.owned.constant) (form_value (substituted t.owned gs) ys) parts.1
      (λ n is. value-below rs (substituted t.owned gs) ys n ranges is) in
      let two : form_value (substituted t.owned gs) ys ≡ form_value t.owned (values_of gs ys) = value-substituted t.owned gs ys in record {
        own = has.own ∙ one;
        upto = omega (arith, has.upto, one, low, two);
      }

  told-led : (ys : List ℕ) (k t : KnownState) (gs : List Form) (us : AllCounts) → InRanges k.ranges ys → tags_lead N T k t gs ≡ true
      → AreTold tagged T N h ys k us → AreTold tagged T N h (values_of gs ys) t us
  told-led ys k t gs us ranges ok told i less p at =
      covered k.ranges ys ranges gs (get_or k.shares (N + i) no_share) (get_or t.shares (N + i) no_share) (tagged i) p (us i)
      (at-below T (λ i. covers_share k.ranges (get_or k.shares (N + i) no_share) (get_or t.shares (N + i) no_share) gs) ok i less) (told i less p at)

  pub told-arrow : (ys : List ℕ) (k t : KnownState) (gs : List Form) (us : AllCounts) → InRanges k.ranges ys
      → arrow_leads queues N T k t gs ≡ true → AreTold tagged T N h ys k us
      → AreTold tagged T N h (values_of (map (settled k.ranges) gs) ys) t us
  told-arrow ys k t gs us ranges ok told = told-led ys (state_by (settled k.ranges) k.ranges k) t (map (settled k.ranges) gs) us ranges
      (and_parts (leads_to queues N (state_by (settled k.ranges) k.ranges k) t (map (settled k.ranges) gs))
      (tags_lead N T (state_by (settled k.ranges) k.ranges k) t (map (settled k.ranges) gs)) ok).1
      (told-by (settled k.ranges) k.ranges ys ys (λ f. value-settled k.ranges f ys ranges) k us told)
