-- What the tests of addresses mean, of a queue whose slots tell.
use Rattle.std.proofs.Common.{ℕ, ◌+◌, ◌*◌, ◌%◌, ◌<◌, ◌≤◌, ◌≡◌, ◌==◌, ◌&&◌, ◌||◌, ◌⊎◌, inl, inr, not, if◌then◌else◌, Bool, true, false, Option, Some, None, List}
use Rattle.std.proofs.Common.{refl, sym, ◌∙◌, ap, subst, arith}
use Rattle.std.specs.Prelude.{nat_lt, nat_le}
use Rattle.std.proofs.lemmas.Bool.{and_parts, or_cases, ltb-true, leb-true, eq-eqb, eqb-true, not-true, cases_lt}
use Rattle.queue_parties.specs.{Party, other, QueueCounts, count, IsInBytes}
use Rattle.slot_queue.specs.Queues.{Queue, slot_of}
use Rattle.queue_parties.proofs.Positions.{slot-within}
use Rattle.slots_that_tell.specs.{IsSlots, AreSlots, AreApart, tag_of, IsSlotByte, IsTagByte, IsOutside, owned_end, OwnsRest}
use Rattle.queue_certificates.specs.{IsOfTag, OwnsAllButTags, Form, form_value, number, plus, remainder, InRanges, Bounds, KnownValue, linear}
use Rattle.queue_certificates.specs.{Share, Has, position_at, offset_at, is_apart, is_slot, is_owned, bare, elements, are_slots}
use Rattle.queue_certificates.specs.{HasAtLeast, is_in_element, tag_position, is_of_rest, is_of_tag, is_beside_slots}
use Rattle.queue_layouts.specs.Tagged.{slots_of}
use Rattle.queue_layouts.specs.declared.tagged.TaggedQueue.{TaggedQueue}
use Rattle.queue_certificates.proofs.Stores.{apart-none, slot-place, position-near}

-- ---- bytes of slots and of tags

module _ (q : TaggedQueue) (is : IsSlots (slots_of q)) where
  pub beside-outside : (b : Bounds) (a width x : ℕ) → is_beside_slots q b width ≡ true → b.low ≤ a → a ≤ b.high → IsInBytes a width x
      → IsOutside (slots_of q) x
  beside-outside b a width x ok low high within there =
      let p = and_parts (is_apart b width q.slots (q.size * q.width)) (is_apart b width q.tags (q.size * q.tag_stride)) ok in elim there [
        | inl slots ↦ apart-none b a width q.slots (q.size * q.width) x p.0 low high within slots
        | inr tags ↦ apart-none b a width q.tags (q.size * q.tag_stride) x p.1 low high within tags
      ]

  -- where the elements with the tags are the slots, a tag lies in its slot
  tag-in-slot : AreSlots (slots_of q) → (k : ℕ) → tag_of (slots_of q) k ≡ slot_of (bare q) k + q.tag_offset
  tag-in-slot same k = ap (λ a. a + q.tag_stride * (k % q.size) + q.tag_offset) same.0 ∙ ap (λ w. q.slots + w * (k % q.size) + q.tag_offset) same.1

  slots-are : AreSlots (slots_of q) → are_slots q ≡ true
  slots-are same = ap (λ b. b && (q.tag_stride == q.width)) (eq-eqb q.tags q.slots same.0) ∙ eq-eqb q.tag_stride q.width same.1

  -- and where they are apart, no byte of a slot is a tag's
  no-tag : AreApart (slots_of q) → (j k x : ℕ) → IsSlotByte (slots_of q) j x → IsTagByte (slots_of q) k x → ⊥
  no-tag apart j k x slot tag =
      let one = slot-within q.slots q.width q.size is.some j x slot in
      let two = slot-within q.tags q.tag_stride q.size is.some k x (omega (arith, tag.0), omega (arith, tag.1, is.tag_within)) in elim apart [
        | inl after ↦ omega (arith, one.1, two.0, after)
        | inr before ↦ omega (arith, one.0, two.1, before)
      ]

  -- ---- by what is known of the place

  module _ (queues : ℕ → Queue) (rs : List (Option ℕ)) (xs : List ℕ) (ranges : InRanges rs xs) (s : Share) (n : ℕ) (own : n ≡ form_value s.own xs) where
    in-element : (f : Form) (a : ℕ) → Has queues xs (linear f) a → is_in_element rs q s f ≡ true
        → a ≡ slot_of (elements q) (n + position_at (elements q) s.own.constant f.constant) + offset_at (elements q) f.constant
    in-element f a at ok = slot-place (elements q) rs xs ranges s.own f n (position_at (elements q) s.own.constant f.constant)
        (offset_at (elements q) f.constant) a own at ok

    pub record IsTagAt (a width j : ℕ) : Type 0 where
      pub place : a ≡ tag_of (slots_of q) (n + j)
      pub near : j < q.size
      pub whole : width ≡ q.tag_width

    pub tag-place : (place : KnownValue) (a width j : ℕ) → Has queues xs place a → tag_position rs q s place width ≡ Some j → IsTagAt a width j
    tag-place (linear f) a width j at is-j =
        by ((width == q.tag_width) && (offset_at (elements q) f.constant == q.tag_offset) && is_in_element rs q s f) refl is-j
      where
        by : (t : Bool) → ((width == q.tag_width) && (offset_at (elements q) f.constant == q.tag_offset) && is_in_element rs q s f) ≡ t
            → (if t then Some (position_at (elements q) s.own.constant f.constant) else None) ≡ Some j → IsTagAt a width j
        by false other is-j = absurd (cc)
        by true ok is-j =
            let p2 = and_parts ((width == q.tag_width) && (offset_at (elements q) f.constant == q.tag_offset)) (is_in_element rs q s f) ok in
            let p1 = and_parts (width == q.tag_width) (offset_at (elements q) f.constant == q.tag_offset) p2.0 in
            let there = in-element f a at p2.1 in
            let offset : offset_at (elements q) f.constant ≡ q.tag_offset = eqb-true (offset_at (elements q) f.constant) q.tag_offset p1.1 in
            subst (IsTagAt a width) (let e : position_at (elements q) s.own.constant f.constant ≡ j = cc in e) (record {
              place = omega (arith, there, offset);
              near = position-near (elements q) is.some s.own.constant f.constant;
              whole = eqb-true width q.tag_width p1.0;
            })
    tag-place other a width j at is-j = absurd (cc)

    pub of-tag : (place : KnownValue) (a width x : ℕ) → Has queues xs place a → is_of_tag rs q s place width ≡ true → IsInBytes a width x
        → IsOfTag (slots_of q) x
    of-tag (linear f) a width x at ok within =
        let p2 = and_parts (nat_le q.tag_offset (offset_at (elements q) f.constant)
        && nat_le (offset_at (elements q) f.constant + width) (q.tag_offset + q.tag_width)) (is_in_element rs q s f) ok in
        let p1 = and_parts (nat_le q.tag_offset (offset_at (elements q) f.constant))
        (nat_le (offset_at (elements q) f.constant + width) (q.tag_offset + q.tag_width)) p2.0 in
        let there = in-element f a at p2.1 in
        let from : q.tag_offset ≤ offset_at (elements q) f.constant = leb-true q.tag_offset (offset_at (elements q) f.constant) p1.0 in
        let upto : offset_at (elements q) f.constant + width ≤ q.tag_offset + q.tag_width =
        leb-true (offset_at (elements q) f.constant + width) (q.tag_offset + q.tag_width) p1.1 in (
          n + position_at (elements q) s.own.constant f.constant,
          (omega (arith, there, from, within.0), omega (arith, there, upto, within.1)),
        )
    of-tag other a width x at ok within = absurd (cc)

  module _ (queues : ℕ → Queue) (rs : List (Option ℕ)) (xs : List ℕ) (ranges : InRanges rs xs) (s : Share) (p : Party) (c : QueueCounts)
      (has : HasAtLeast q p c xs s) where
    -- of a form, in the slot of an owned position, this far into it
    record Within (f : Form) (a width : ℕ) : Type 0 where
      pub position : ℕ
      pub place : a ≡ slot_of (bare q) position + offset_at (bare q) f.constant
      pub from : count p c ≤ position
      pub before : position < owned_end (slots_of q) p c
      pub fits : offset_at (bare q) f.constant + width ≤ q.width

    within-owned : (f : Form) (a width : ℕ) → Has queues xs (linear f) a → is_owned rs (bare q) s (linear f) width ≡ true → Within f a width
    within-owned f a width at ok =
        let p2 = and_parts (nat_lt (position_at (bare q) s.own.constant f.constant) s.owned.constant
        && nat_le (offset_at (bare q) f.constant + width) q.width)
        (is_slot rs (bare q) f (offset_at (bare q) f.constant)
        (remainder rs (plus s.own (number (position_at (bare q) s.own.constant f.constant))) q.size)) ok in
        let p1 = and_parts (nat_lt (position_at (bare q) s.own.constant f.constant) s.owned.constant)
        (nat_le (offset_at (bare q) f.constant + width) q.width) p2.0 in
        let less : position_at (bare q) s.own.constant f.constant < s.owned.constant =
        ltb-true (position_at (bare q) s.own.constant f.constant) s.owned.constant p1.0 in record {
          position = count p c + position_at (bare q) s.own.constant f.constant;
          place = slot-place (bare q) rs xs ranges s.own f (count p c) (position_at (bare q) s.own.constant f.constant)
              (offset_at (bare q) f.constant) a has.own at p2.1;
          from = omega arith;
          before = omega (arith, has.own, has.upto, less);
          fits = leb-true (offset_at (bare q) f.constant + width) q.width p1.1;
        }

    pub of-rest : (place : KnownValue) (a width x : ℕ) → Has queues xs place a → is_of_rest rs q s place width ≡ true → IsInBytes a width x
        → OwnsRest (slots_of q) p c x
    of-rest (linear f) a width x at ok within =
        let p1 = and_parts (not (are_slots q) || nat_le (offset_at (bare q) f.constant + width) q.tag_offset
        || nat_le (q.tag_offset + q.tag_width) (offset_at (bare q) f.constant)) (is_owned rs (bare q) s (linear f) width) ok in
        let w = within-owned f a width at p1.1 in
        let byte : IsSlotByte (slots_of q) w.position x = (omega (arith, w.place, within.0), omega (arith, w.place, w.fits, within.1)) in record {
          position = w.position;
          from = w.from;
          before = w.before;
          byte = byte;
          no_tag = λ tag. elim is.tags_lie [
            | inr apart ↦ no-tag apart w.position w.position x byte tag
            | inl same ↦ (let place : tag_of (slots_of q) w.position ≡ slot_of (bare q) w.position + q.tag_offset = tag-in-slot same w.position in
                elim (or_cases (not (are_slots q) || nat_le (offset_at (bare q) f.constant + width) q.tag_offset)
                (nat_le (q.tag_offset + q.tag_width) (offset_at (bare q) f.constant)) p1.0) [
                  | inr over ↦ (let u : q.tag_offset + q.tag_width ≤ offset_at (bare q) f.constant =
                      leb-true (q.tag_offset + q.tag_width) (offset_at (bare q) f.constant) over in omega (arith, place, u, w.place, within.0, tag.1))
                  | inl left ↦ elim (or_cases (not (are_slots q)) (nat_le (offset_at (bare q) f.constant + width) q.tag_offset) left) [
                    | inr under ↦ (let u : offset_at (bare q) f.constant + width ≤ q.tag_offset =
                        leb-true (offset_at (bare q) f.constant + width) q.tag_offset under in omega (arith, place, u, w.place, within.1, tag.0))
                    | inl others ↦ absurd (let no : true ≡ false = sym (slots-are same) ∙ not-true (are_slots q) others in cc)
                  ]
                ])
          ];
        }
    of-rest other a width x at ok within = absurd (cc)

    pub of-owned : (place : KnownValue) (a width x : ℕ) → Has queues xs place a → is_owned rs (bare q) s place width ≡ true → IsInBytes a width x
        → IsOfTag (slots_of q) x ⊎ OwnsRest (slots_of q) p c x
    of-owned (linear f) a width x at ok within = by (cases_lt x (tag_of (slots_of q) w.position)) (cases_lt x (tag_of (slots_of q) w.position + q.tag_width))
      where
        w : Within f a width
        w = within-owned f a width at ok

        rest : (IsTagByte (slots_of q) (within-owned f a width at ok).position x → ⊥) → IsOfTag (slots_of q) x ⊎ OwnsRest (slots_of q) p c x
        rest none = inr (record {
          position = w.position;
          from = w.from;
          before = w.before;
          byte = (omega (arith, w.place, within.0), omega (arith, w.place, w.fits, within.1));
          no_tag = none;
        })

        by : (x < tag_of (slots_of q) (within-owned f a width at ok).position) ⊎ (tag_of (slots_of q) (within-owned f a width at ok).position ≤ x)
            → (x < tag_of (slots_of q) (within-owned f a width at ok).position + q.tag_width)
            ⊎ (tag_of (slots_of q) (within-owned f a width at ok).position + q.tag_width ≤ x)
            → IsOfTag (slots_of q) x ⊎ OwnsRest (slots_of q) p c x
        by (inr from) (inl upto) = inl (w.position, (from, upto))
        by (inl under) past = rest (λ tag. omega (arith, under, tag.0))
        by (inr from) (inr past) = rest (λ tag. omega (arith, past, tag.1))
    of-owned other a width x at ok within = absurd (cc)

    pub reads-rest : (place : KnownValue) (b : Bounds) (a width : ℕ) → Has queues xs place a → b.low ≤ a → a ≤ b.high
        → (is_beside_slots q b width || is_of_tag rs q s place width || is_owned rs (bare q) s place width) ≡ true
        → OwnsAllButTags (slots_of q) p c a width
    reads-rest place b a width at low high ok x within slots =
        elim (or_cases (is_beside_slots q b width || is_of_tag rs q s place width) (is_owned rs (bare q) s place width) ok) [
          | inr owned ↦ of-owned place a width x at owned within
          | inl left ↦ elim (or_cases (is_beside_slots q b width) (is_of_tag rs q s place width) left) [
            | inl off ↦ absurd (beside-outside b a width x off low high within (inl slots))
            | inr tag ↦ inl (of-tag queues rs xs ranges s (count p c) has.own place a width x at tag within)
          ]
        ]
