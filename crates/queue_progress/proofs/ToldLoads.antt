-- A load after which two states may follow, where the party owned no position for sure and owns one in the first of them: it is a load of the
-- tag of that position.
use Rattle.std.proofs.Common.{ℕ, ℤ, suc, zero, ◌+◌, ◌<◌, ◌≤◌, ◌≡◌, ◌⊎◌, inl, inr, if◌then◌else◌, Bool, true, false, Option, Some, None, List, [], ◌∷◌, length}
use Rattle.std.proofs.Common.{get_or, refl, sym, ◌∙◌, ap, subst, arith}
use Rattle.std.specs.Prelude.{nat_lt, map, set}
use Rattle.std.proofs.lemmas.Bool.{cases_eq, cases_lt}
use Rattle.std.proofs.lemmas.List.{length-map, get_or-set_same, get_or-set_other, set_past}
use Rattle.rv_decode.specs.declared.instruction.Reg.{Reg}
use Rattle.rv_decode.specs.declared.instruction.LoadOp.{LoadOp}
use Rattle.rv_decode.specs.declared.instruction.Instr.{Instr}
use Rattle.rv_decode.specs.declared.instruction.Instr.TheVariants.{Load}
use Rattle.hart.specs.Effects.{next_pc, load_width}
use Rattle.queue_parties.specs.Parties.{Party}
use Rattle.queue_certificates.specs.{Field, Form, number, lifted, Bounds, KnownValue, any, linear, index_for, signed_for, ends_as, has_bits, Share, no_share}
use Rattle.queue_certificates.specs.{share_by, KnownState, Result, last_below, is_look, may_load, after_load, with_result, share_at, instruction_at}
use Rattle.queue_certificates.specs.{address_value, addresses, follow, field_number, keeps_numbers, field_below, after_field, next_received, party_in}
use Rattle.queue_certificates.specs.{tag_position, tag_by, tag_at, looked_tag, told_value, other_value, when_told, at_tag, load_tells, next_told}
use Rattle.queue_certificates.specs.{QueueCertificate, queue_at, fields_at, tagged_at, own_of, next_states}
use Rattle.queue_layouts.specs.declared.tagged.TaggedQueue.{TaggedQueue}

lifted-constant : (ss : List Share) (i : ℕ) → (get_or (map (share_by lifted) ss) i no_share).owned.constant ≡ (get_or ss i no_share).owned.constant
lifted-constant [] i = refl
lifted-constant (s ∷ ss) zero = refl
lifted-constant (s ∷ ss) (suc i) = lifted-constant ss i

-- without tags one state follows a load
one-alone : (k : KnownState) (op : LoadOp) (rd : ℕ) (look : Option ℕ) (f : Option Field) (x a z : KnownState)
    → after_field k op rd look f (x ∷ []) ≡ a ∷ z ∷ [] → ⊥
one-alone k op rd (Some i) f x a z is = absurd (cc)
one-alone k op rd None None x a z is = absurd (cc)
one-alone k op rd None (Some f) x a z is = by (keeps_numbers op f) is
  where
    by : (t : Bool) → (if t then with_result k rd (next_pc k.pc) (field_number f) ∷ [] else x ∷ []) ≡ a ∷ z ∷ [] → ⊥
    by true is = absurd (cc)
    by false is = absurd (cc)

pub last-same : (n : ℕ) (f g : ℕ → Bool) → ((j : ℕ) → f j ≡ g j) → last_below n f ≡ last_below n g
last-same zero f g same = refl
last-same (suc n) f g same = ap (λ b. if b then Some n else last_below n f) (same n) ∙ ap (λ l. if g n then Some n else l) (last-same n f g same)

-- a tag's position is one by the own count alone
pub by-own : (rs : List (Option ℕ)) (q : TaggedQueue) (s u : Share) (place : KnownValue) (width : ℕ) → u.own ≡ s.own
    → tag_position rs q u place width ≡ tag_position rs q s place width
by-own rs q s u any width same = refl
by-own rs q s u (index_for i f) width same = refl
by-own rs q s u (signed_for i f) width same = refl
by-own rs q s u (ends_as n f) width same = refl
by-own rs q s u (has_bits m b) width same = refl
by-own rs q s u (linear f) width same = ap (λ g. tag_position rs q (record { own = g; owned = s.owned }) (linear f) width) same

module _ (c : QueueCertificate) (h : ℕ) (code : List ℕ) (t : ℕ) where
  abbrev N : ℕ
  N = length c.queues

  abbrev i : ℕ
  i = length c.queues + t

  -- the load, as a leaf's state says it
  pub record IsTagLoad (k : KnownState) (a : KnownState) : Type 0 where
    pub op : LoadOp
    pub rd : Reg
    pub rs1 : Reg
    pub offset : ℤ
    pub party : Party
    pub is : instruction_at code k.pc ≡ Some (Load op rd rs1 offset)
    pub mine : party_in (tagged_at c t) h ≡ Some party
    pub may : may_load (queue_at c) N h k (addresses (queue_at c) k rs1 offset) (load_width op)
        (last_below N (is_look (queue_at c) h (addresses (queue_at c) k rs1 offset) (load_width op))) ≡ true
    pub unseen : may_load (queue_at c) N h k (addresses (queue_at c) k rs1 offset) (load_width op) None ≡ true
    pub looked : looked_tag (tagged_at c) (length c.tagged) N h k (address_value (queue_at c) k rs1 offset) (load_width op) ≡ Some t
    pub tag : tag_position k.ranges (tagged_at c t) (share_at k i) (address_value (queue_at c) k rs1 offset) (load_width op) ≡ Some 0
    pub listed : i < length k.shares
    pub first : when_told (tagged_at c) N k party op rd.number t 0 (share_at k i) ≡ a

  module _ (k : KnownState) (d : Form) (a z : KnownState) (none : (share_at k i).owned.constant ≡ 0) (one : (share_at a i).owned.constant ≡ 1)
      (op : LoadOp) (rd rs1 : Reg) (offset : ℤ) (is : instruction_at code k.pc ≡ Some (Load op rd rs1 offset)) where
    abbrev place : KnownValue
    place = address_value (queue_at c) k rs1 offset

    abbrev around : Bounds
    around = addresses (queue_at c) k rs1 offset

    abbrev wide : ℕ
    wide = load_width op

    abbrev index : Option ℕ
    index = last_below (length c.queues) (is_look (queue_at c) h (addresses (queue_at c) k rs1 offset) (load_width op))

    module _ (may : may_load (queue_at c) (length c.queues) h k around wide index ≡ true)
        (unseen : may_load (queue_at c) (length c.queues) h k around wide None ≡ true)
        (w : ℕ) (looked : looked_tag (tagged_at c) (length c.tagged) (length c.queues) h k place wide ≡ Some w) (p : Party)
        (mine : party_in (tagged_at c w) h ≡ Some p) (j : ℕ)
        (tag : tag_position k.ranges (tagged_at c w) (share_at k (length c.queues + w)) place wide ≡ Some j)
        (first : when_told (tagged_at c) (length c.queues) k p op rd.number w j (share_at k (length c.queues + w)) ≡ a) where
      abbrev told : Result
      told = told_value k.ranges (tagged_at c w) (tagged_at c w).codec p op (share_at k (length c.queues + w)).own j

      abbrev after : List Share
      after = map (share_by lifted) k.shares

      abbrev learned : Share
      learned = record { own = lifted (share_at k (length c.queues + w)).own; owned = number (j + 1) }

      in-first : (get_or (set after (length c.queues + w) learned) i no_share).owned.constant ≡ 1
      in-first = ap (λ s. (share_at s i).owned.constant) first ∙ one

      unchanged : get_or (set after (length c.queues + w) learned) i no_share ≡ get_or after i no_share → ⊥
      unchanged same = let zero-there : (get_or after i no_share).owned.constant ≡ 0 = lifted-constant k.shares i ∙ none in
          let one-there : (get_or after i no_share).owned.constant ≡ 1 = ap (λ (s : Share). s.owned.constant) (sym same) ∙ in-first in
          omega (arith, zero-there, one-there)

      here : w ≡ t → (j ≡ 0) × (i < length k.shares)
      here same = by (cases_lt (length c.queues + w) (length k.shares))
        where
          long : length after ≡ length k.shares
          long = length-map k.shares (share_by lifted)

          place-is : length c.queues + w ≡ i
          place-is = ap (λ n. length c.queues + n) same

          by : (length c.queues + w < length k.shares) ⊎ (length k.shares ≤ length c.queues + w) → (j ≡ 0) × (i < length k.shares)
          by (inl short) = (
            (let got : get_or (set after (length c.queues + w) learned) i no_share ≡ learned =
                ap (λ n. get_or (set after (length c.queues + w) learned) n no_share) (sym place-is)
                ∙ get_or-set_same after (length c.queues + w) learned no_share (omega (arith, short, long)) in
                let sum : j + 1 ≡ 1 = ap (λ (s : Share). s.owned.constant) (sym got) ∙ in-first in omega (arith, sum)),
            omega (arith, short, place-is),
          )
          by (inr past) = absurd (unchanged (ap (λ ss. get_or ss i no_share) (set_past after (length c.queues + w) learned (omega (arith, past, long)))))

      load-of : IsTagLoad k a
      load-of = elim (cases_eq w t) [
        | inl same ↦ (let at = here same in
            subst (λ v. tag_position k.ranges (tagged_at c v) (share_at k (length c.queues + v)) place wide ≡ Some j
            → when_told (tagged_at c) (length c.queues) k p op rd.number v j (share_at k (length c.queues + v)) ≡ a
            → looked_tag (tagged_at c) (length c.tagged) (length c.queues) h k place wide ≡ Some v
            → party_in (tagged_at c v) h ≡ Some p → IsTagLoad k a) (sym same)
            (subst (λ n. tag_position k.ranges (tagged_at c t) (share_at k i) place wide ≡ Some n
            → when_told (tagged_at c) (length c.queues) k p op rd.number t n (share_at k i) ≡ a
            → looked_tag (tagged_at c) (length c.tagged) (length c.queues) h k place wide ≡ Some t
            → party_in (tagged_at c t) h ≡ Some p → IsTagLoad k a) (sym at.0)
            (λ tag first looked mine. record {
              op = op;
              rd = rd;
              rs1 = rs1;
              offset = offset;
              party = p;
              is = is;
              mine = mine;
              may = may;
              unseen = unseen;
              looked = looked;
              tag = tag;
              listed = at.1;
              first = first;
            })) tag first looked mine)
        | inr apart ↦ absurd (unchanged (get_or-set_other after (length c.queues + w) i learned no_share (λ same. apart (omega (arith, same)))))
      ]

    of-tag : (w : ℕ) → may_load (queue_at c) (length c.queues) h k around wide index ≡ true
        → may_load (queue_at c) (length c.queues) h k around wide None ≡ true
        → looked_tag (tagged_at c) (length c.tagged) (length c.queues) h k place wide ≡ Some w → (r : Option Party) → party_in (tagged_at c w) h ≡ r
        → (j : Option ℕ) → tag_by (tagged_at c) (length c.queues) k r place wide w ≡ j
        → at_tag (tagged_at c) (length c.queues) k r op rd.number w j ≡ Some (a ∷ z ∷ []) → IsTagLoad k a
    of-tag w may unseen looked None mine j tag is-two = absurd (cc)
    of-tag w may unseen looked (Some p) mine None tag is-two = absurd (cc)
    of-tag w may unseen looked (Some p) mine (Some j) tag is-two = by (nat_lt j (share_at k (length c.queues + w)).owned.constant) is-two
      where
        by : (u : Bool) → Some (if u then with_result k rd.number (next_pc k.pc)
            (told_value k.ranges (tagged_at c w) (tagged_at c w).codec p op (share_at k (length c.queues + w)).own j) ∷ [] else
            when_told (tagged_at c) (length c.queues) k p op rd.number w j (share_at k (length c.queues + w)) ∷ with_result k rd.number (next_pc k.pc)
            (other_value k.ranges (tagged_at c w) (tagged_at c w).codec p op (share_at k (length c.queues + w)).own j) ∷ []) ≡ Some (a ∷ z ∷ []) → IsTagLoad k a
        by true is-two = absurd (cc)
        by false is-two = load-of may unseen w looked p mine j tag
            (let same : when_told (tagged_at c) (length c.queues) k p op rd.number w j (share_at k (length c.queues + w)) ≡ a = cc in same)

    -- what follows where there are tags
    abbrev received : List KnownState → List KnownState
    received ks = after_field k op rd.number index (field_below (queue_at c) (fields_at c) h k place wide (length c.queues)) ks

    of-load : (x : KnownState) → may_load (queue_at c) (length c.queues) h k around wide index ≡ true → (l : Option ℕ)
        → looked_tag (tagged_at c) (length c.tagged) (length c.queues) h k place wide ≡ l
        → load_tells (tagged_at c) (length c.tagged) (queue_at c) (length c.queues) (own_of c) (length c.harts) h k op rd.number place around l
        (received (x ∷ [])) ≡ Some (a ∷ z ∷ []) → IsTagLoad k a
    of-load x may None looked is-two = absurd (one-alone k op rd.number index (field_below (queue_at c) (fields_at c) h k place wide (length c.queues)) x a z
        (let same : received (x ∷ []) ≡ a ∷ z ∷ [] = cc in same))
    of-load x may (Some w) looked is-two = by (may_load (queue_at c) (length c.queues) h k around wide None) refl is-two
      where
        by : (u : Bool) → may_load (queue_at c) (length c.queues) h k around wide None ≡ u
            → (if u then at_tag (tagged_at c) (length c.queues) k (party_in (tagged_at c w) h) op rd.number w
            (tag_at (tagged_at c) (length c.tagged) (length c.queues) h k place wide w) else None) ≡ Some (a ∷ z ∷ []) → IsTagLoad k a
        by false off is-two = absurd (cc)
        by true unseen is-two = of-tag w may unseen looked (party_in (tagged_at c w) h) refl
            (tag_at (tagged_at c) (length c.tagged) (length c.queues) h k place wide w) refl is-two

    pub tag-load : next_states c h code k d ≡ Some (a ∷ z ∷ []) → IsTagLoad k a
    tag-load next = by (may_load (queue_at c) (length c.queues) h k around wide index) refl (ap known (sym is) ∙ next)
      where
        known : Option Instr → Option (List KnownState)
        known j = next_told (tagged_at c) (length c.tagged) (queue_at c) (length c.queues) (own_of c) (length c.harts) h k j
            (next_received (queue_at c) (fields_at c) (length c.queues) h k j
            (follow (queue_at c) (length c.queues) (own_of c) (length c.harts) h k d j))

        by : (u : Bool) → may_load (queue_at c) (length c.queues) h k around wide index ≡ u
            → next_told (tagged_at c) (length c.tagged) (queue_at c) (length c.queues) (own_of c) (length c.harts) h k (Some (Load op rd rs1 offset))
            (next_received (queue_at c) (fields_at c) (length c.queues) h k (Some (Load op rd rs1 offset))
            (if u then Some (after_load (queue_at c) (length c.queues) (own_of c) h k op rd.number around index ∷ []) else None))
            ≡ Some (a ∷ z ∷ []) → IsTagLoad k a
        by false off is-two = absurd (cc)
        by true may is-two = of-load (after_load (queue_at c) (length c.queues) (own_of c) h k op rd.number around index) may
            (looked_tag (tagged_at c) (length c.tagged) (length c.queues) h k place wide) refl is-two
