-- At such a load the party loads its own position's tag; where that tells it so, the hart is in the first of both states that may follow. A state
-- that says besides that the party owns its position is as right after the load, and one state follows it.
use Rattle.std.proofs.Common.{ℕ, zero, suc, ◌+◌, ◌-◌, ◌<◌, ◌≤◌, ◌≡◌, ◌≢◌, ◌==◌, ◌&&◌, ◌||◌, ◌⊎◌, inl, inr, if◌then◌else◌, Bool, true}
use Rattle.std.proofs.Common.{Option, Some, None, List, [], ◌∷◌, length, get_or, refl, sym, ◌∙◌, ap, subst, arith}
use Rattle.std.specs.Prelude.{nat_lt, is_some, map, set}
use Rattle.std.proofs.lemmas.Bool.{eq-eqb, ne_eqb, cases_eq, cases_lt}
use Rattle.std.proofs.lemmas.List.{length-set, length-map, get_or-set_same, get_or-set_other}
use Rattle.rv_decode.specs.declared.instruction.Instr.{Instr}
use Rattle.rv_decode.specs.declared.instruction.Instr.TheVariants.{Load}
use Rattle.hart.specs.{HartState, advanced, register_value, address, next_pc, load_width}
use Rattle.hart.specs.declared.status.Status.TheVariants as status
use Rattle.step_machine.specs.declared.events.Entry.{Entry}
use Rattle.step_machine.specs.Names.{HartOpeningValue, OpeningValue, load, access_of, number_read}
use Rattle.slot_queue.specs.{party_of, after_access}
use Rattle.queue_parties.specs.{Party, QueueCounts, count, known}
use Rattle.queue_parties.proofs.Parties.{count-set-known, known-set}
use Rattle.slots_that_tell.specs.{IsSlots, tag_of, teller_hart, owned_end, told, told_access}
use Rattle.slots_that_tell.specs.Slots.{Slots}
use Rattle.slots_that_tell.specs.Telling as telling
use Rattle.slots_that_tell.proofs.Owned.{mine-of}
use Rattle.queue_certificates.specs.{SeesTags, View, AllCounts, number_seen, ReadsFrom, view_then, ActsByCounts, kept_beside, Form, form_value, number, lifted}
use Rattle.queue_certificates.specs.{KnownValue, Share, no_share, share_by, KnownState, HasShare, MeansAt, Result, last_below, is_just, is_look, misses}
use Rattle.queue_certificates.specs.{all_below, may_load, with_result, share_at, instruction_at, address_value, addresses, follow, field_below, after_field}
use Rattle.queue_certificates.specs.{next_received, party_in, tag_position, tag_by, tag_at, looked_tag, told_value, with_share, HasAtLeast, after_tag, at_tag}
use Rattle.queue_certificates.specs.{load_tells, next_told, QueueCertificate, queue_at, fields_at, tagged_at, own_of, next_states, HasFields, MeetsFields}
use Rattle.queue_certificates.specs.{SharesTold, told_beside, accepts}
use Rattle.queue_certificates.specs.Steps as transfer
use Rattle.queue_layouts.specs.Tagged.{slots_of}
use Rattle.queue_certificates.proofs.{value-lifted, value-number, untold, tag_loaded, told_owns, knows_of, tagged-fine, teller-is, same-by, Stays, told_by}
use Rattle.queue_certificates.proofs.{set-means, set-told, load-stays, Makes, next-access, OfHart, fine, fine-tagged, IsAmongAll, leaf-goes}
use Rattle.queue_certificates.proofs.Steps as steps
use Rattle.queue_certificates.proofs.TagPlaces.{IsTagAt, tag-place}
use Rattle.queue_progress.proofs.ToldLoads.{last-same, by-own, IsTagLoad}

-- ---- counts at which the party knows that it owns its position

module _ (q : Slots) (is : IsSlots q) (p : Party) (d : QueueCounts) (v : ℕ) where
  abbrev n : ℕ
  n = count p d

  abbrev informed : QueueCounts
  informed = knows_of q is p d (count p d)

  same-count : count p informed ≡ count p d
  same-count = count-set-known p p (known p d + (told q p (count p d) - known p d)) d

  -- where its position's tag tells it so, it is as right to know that
  informed-sees : (m : View) → SeesTags q p d m → q.tells p (count p d) v ≡ true → v ≡ number_seen m (tag_of q (count p d)) q.tag_width
      → SeesTags q p informed m
  informed-sees m sees tells reads = record {
    room = omega (arith, same-count, knows, sees.room);
    round = omega (arith, same-count, knows, sees.round, is.some);
    owned = λ k from below. owned k (omega (arith, from, same-count)) below (cases_lt k (owned_end q p d));
    either = λ k from below. sees.either k (omega (arith, from, same-count)) (omega (arith, below, same-count));
  }
    where
      knows : known p informed ≡ known p d + (told q p (count p d) - known p d)
      knows = known-set p (known p d + (told q p (count p d) - known p d)) d

      owned : (k : ℕ) → count p d ≤ k → k < owned_end q p informed → (k < owned_end q p d) ⊎ (owned_end q p d ≤ k)
          → q.tells p k (number_seen m (tag_of q k) q.tag_width) ≡ true
      owned k from below (inl less) = sees.owned k from less
      owned k from below (inr le) =
          let at : k ≡ count p d = omega (arith, from, below, le, knows, sees.room) in
          subst (λ j. q.tells p j (number_seen m (tag_of q j) q.tag_width) ≡ true) (sym at) (ap (q.tells p (count p d)) (sym reads) ∙ tells)

-- ---- the state that says that the party owns its position

module _ (c : QueueCertificate) (h : ℕ) (code : List ℕ) (t : ℕ) (k a : KnownState) (l : IsTagLoad c h code t k a) where
  abbrev N : ℕ
  N = length c.queues

  abbrev i : ℕ
  i = length c.queues + t

  abbrev one : Share
  one = record { own = (share_at k i).own; owned = number 1 }

  abbrev pub owning : KnownState
  owning = with_share (length c.queues + t) (record { own = (share_at k (length c.queues + t)).own; owned = number 1 }) k

  abbrev place : KnownValue
  place = address_value (queue_at c) k l.rs1 l.offset

  abbrev wide : ℕ
  wide = load_width l.op

  abbrev result : Result
  result = told_value k.ranges (tagged_at c t) (tagged_at c t).codec l.party l.op (share_at k i).own 0

  abbrev pub next : KnownState
  next = with_result (with_share (length c.queues + t) (record { own = (share_at k (length c.queues + t)).own; owned = number 1 }) k) l.rd.number
      (next_pc k.pc) (told_value k.ranges (tagged_at c t) (tagged_at c t).codec l.party l.op (share_at k (length c.queues + t)).own 0)

  owning-share : share_at owning i ≡ one
  owning-share = get_or-set_same k.shares i one no_share l.listed

  -- it loads what k does
  may-still : (look : Option ℕ) → may_load (queue_at c) N h k (addresses (queue_at c) k l.rs1 l.offset) wide look ≡ true
      → may_load (queue_at c) N h owning (addresses (queue_at c) k l.rs1 l.offset) wide look ≡ true
  may-still look may = ap (λ n. all_below N (λ j. (is_just look j && nat_lt j n)
      || misses (queue_at c j) (party_of (queue_at c j) h) (addresses (queue_at c) k l.rs1 l.offset) wide)) (length-set k.shares i one) ∙ may

  tag-still : (j : ℕ) → tag_at (tagged_at c) (length c.tagged) N h owning place wide j ≡ tag_at (tagged_at c) (length c.tagged) N h k place wide j
  tag-still j = by (party_in (tagged_at c j) h) (cases_eq j t)
    where
      by : (r : Option Party) → (j ≡ t) ⊎ (j ≢ t) → tag_by (tagged_at c) N owning r place wide j ≡ tag_by (tagged_at c) N k r place wide j
      by None same = refl
      by (Some p) (inl same) = by-own k.ranges (tagged_at c j) (share_at k (N + j)) (share_at owning (N + j)) place wide
          (ap (λ n. (share_at owning (N + n)).own) same ∙ ap (λ (s : Share). s.own) owning-share ∙ ap (λ n. (share_at k (N + n)).own) (sym same))
      by (Some p) (inr apart) = ap (λ s. tag_position k.ranges (tagged_at c j) s place wide)
          (get_or-set_other k.shares i (N + j) one no_share (λ same. apart (omega (arith, same))))

  looked-still : looked_tag (tagged_at c) (length c.tagged) N h owning place wide ≡ Some t
  looked-still = last-same (length c.tagged) (λ j. is_some (tag_at (tagged_at c) (length c.tagged) N h owning place wide j))
      (λ j. is_some (tag_at (tagged_at c) (length c.tagged) N h k place wide j)) (λ j. ap is_some (tag-still j)) ∙ l.looked

  module _ (d : Form) where
    -- and one state follows it
    pub owning-next : next_states c h code owning d ≡ Some (next ∷ [])
    owning-next = ap known l.is ∙ ap loads (may-still index l.may) ∙ ap (λ w. tells w ks) looked-still
        ∙ ap (λ b. if b then at_tag (tagged_at c) N owning (party_in (tagged_at c t) h) l.op l.rd.number t
        (tag_at (tagged_at c) (length c.tagged) N h owning place wide t) else None) (may-still None l.unseen)
        ∙ ap (λ r. at_tag (tagged_at c) N owning r l.op l.rd.number t (tag_by (tagged_at c) N owning r place wide t)) l.mine
        ∙ ap (at_tag (tagged_at c) N owning (Some l.party) l.op l.rd.number t)
        (by-own k.ranges (tagged_at c t) (share_at k i) (share_at owning i) place wide (ap (λ (s : Share). s.own) owning-share) ∙ l.tag)
        ∙ ap (λ s. Some (after_tag (tagged_at c) N owning l.party l.op l.rd.number t 0 s)) owning-share
      where
        index : Option ℕ
        index = last_below N (is_look (queue_at c) h (addresses (queue_at c) k l.rs1 l.offset) wide)

        known : Option Instr → Option (List KnownState)
        known j = next_told (tagged_at c) (length c.tagged) (queue_at c) N (own_of c) (length c.harts) h owning j
            (next_received (queue_at c) (fields_at c) N h owning j (follow (queue_at c) N (own_of c) (length c.harts) h owning d j))

        first : KnownState
        first = transfer.after_load (queue_at c) N (own_of c) h owning l.op l.rd.number (addresses (queue_at c) k l.rs1 l.offset) index

        loads : Bool → Option (List KnownState)
        loads b = next_told (tagged_at c) (length c.tagged) (queue_at c) N (own_of c) (length c.harts) h owning (Some (Load l.op l.rd l.rs1 l.offset))
            (next_received (queue_at c) (fields_at c) N h owning (Some (Load l.op l.rd l.rs1 l.offset)) (if b then Some (first ∷ []) else None))

        ks : List KnownState
        ks = after_field owning l.op l.rd.number index (field_below (queue_at c) (fields_at c) h owning place wide N) (first ∷ [])

        tells : Option ℕ → List KnownState → Option (List KnownState)
        tells w ks = load_tells (tagged_at c) (length c.tagged) (queue_at c) N (own_of c) (length c.harts) h owning l.op l.rd.number place
            (addresses (queue_at c) k l.rs1 l.offset) w ks

-- ---- an instruction of the hart there

other-lifted : (ss : List Share) (n j : ℕ) (u : Share) → j ≢ n
    → get_or (map (share_by lifted) (set ss n u)) j no_share ≡ get_or (map (share_by lifted) ss) j no_share
other-lifted [] n j u apart = refl
other-lifted (s ∷ ss) zero zero u apart = absurd (apart refl)
other-lifted (s ∷ ss) zero (suc j) u apart = refl
other-lifted (s ∷ ss) (suc n) zero u apart = refl
other-lifted (s ∷ ss) (suc n) (suc j) u apart = other-lifted ss n j u (λ same. apart (ap (λ m. suc m) same))

module _ (M : ℕ) (o : OpeningValue) (c : QueueCertificate) (ok : accepts o c ≡ true) (h : ℕ) (x : HartOpeningValue) (of : OfHart M o c ok h x)
    (s : HartState) (m : View) (cs us : AllCounts) (e : Entry)
    (acts : ActsByCounts M o (length c.queues) (queue_at c) (HasFields c) (MeetsFields c) h s m cs e) (knows : (kept_beside (told_beside c)).Knows h us m)
    (code : s.code ≡ x.code) (size : length s.registers ≡ length x.registers) (t : ℕ) (less : t < length c.tagged) (k a : KnownState)
    (l : IsTagLoad c h x.code t k a) (xs : List ℕ) (means : MeansAt (queue_at c) (length c.queues) (own_of c h) h xs k s m cs)
    (told : SharesTold c h xs k us) (runs : (advanced s (number_read e)).status ≡ status.Running) where
  abbrev q : Slots
  q = slots_of (tagged_at c t)

  abbrev v : ℕ
  v = number_read e

  abbrev d : QueueCounts
  d = us t

  is : IsSlots (slots_of (tagged_at c t))
  is = tagged-fine (tagged_at c t) (fine-tagged M o c ok t less)

  mine : h ≡ teller_hart (slots_of (tagged_at c t)) l.party
  mine = mine-of (slots_of (tagged_at c t)) is l.party h l.mine

  has : HasAtLeast (tagged_at c t) l.party (us t) xs (get_or k.shares (length c.queues + t) no_share)
  has = told t less l.party mine

  loads : access_of e ≡ load (address (register_value s.registers l.rs1) l.offset) (load_width l.op) (number_read e)
  loads = elim (subst (λ j. Makes s (number_read e) j (access_of e) (advanced s (number_read e)))
      (ap (λ ws. instruction_at ws s.pc) code ∙ ap (instruction_at x.code) means.pc ∙ l.is) (next-access s e acts.can)) [
        | inl stops ↦ absurd (stops.ends runs)
        | inr made ↦ made
      ]

  tag : IsTagAt (tagged_at c t) is (queue_at c) k.ranges xs means.ranges (get_or k.shares (length c.queues + t) no_share) (count l.party (us t)) has.own
      (address (register_value s.registers l.rs1) l.offset) (load_width l.op) 0
  tag = tag-place (tagged_at c t) is (queue_at c) k.ranges xs means.ranges (get_or k.shares (length c.queues + t) no_share) (count l.party (us t)) has.own
      (address_value (queue_at c) k l.rs1 l.offset) (address (register_value s.registers l.rs1) l.offset) (load_width l.op) 0
      (steps.address-has M o (queue_at c) (length c.queues) (own_of c) (length c.harts) h xs k s m cs e
      (untold M o (length c.queues) (queue_at c) (HasFields c) (MeetsFields c) h s m cs e acts) (subst (λ n. 32 ≤ n) (sym size) of.registers)
      (fine M o c ok) means l.rs1 l.offset) l.tag

  -- it loads the tag of the party's own position
  pub at-own-tag : access_of e ≡ load (tag_of (slots_of (tagged_at c t)) (count l.party (us t))) (tagged_at c t).tag_width (number_read e)
  at-own-tag = loads
      ∙ ap (λ b. load b (load_width l.op) v) (tag.place ∙ ap (tag_of q) (let z : count l.party d + 0 ≡ count l.party d = omega arith in z))
      ∙ ap (λ w. load (tag_of q (count l.party d)) w v) tag.whole

  module _ (tells : (slots_of (tagged_at c t)).tells l.party (count l.party (us t)) (number_read e) ≡ true) where
    abbrev knowing : QueueCounts
    knowing = knows_of q is l.party d (count l.party d)

    reads : number_read e ≡ number_seen m (tag_of q (count l.party d)) (tagged_at c t).tag_width
    reads = subst (ReadsFrom m) at-own-tag acts.reads

    -- the counts, but that the party knows of this
    abbrev vs : AllCounts
    vs = λ j. if j == t then knowing else us j

    here : (if t == t then knowing else us t) ≡ knowing
    here = ap (λ b. if b then knowing else us t) (eq-eqb t t refl)

    there : (j : ℕ) → j ≢ t → (if j == t then knowing else us j) ≡ us j
    there j apart = ap (λ b. if b then knowing else us j) (ne_eqb j t apart)

    one-party : (r : Party) → h ≡ teller_hart (slots_of (tagged_at c t)) r → l.party ≡ r
    one-party r there = let same : ◌≡◌ {A = Option Party} (Some l.party) (Some r) = sym l.mine ∙ teller-is (slots_of (tagged_at c t)) is h r there in cc

    sees : (kept_beside (told_beside c)).Knows h vs m
    sees j low r its = by (cases_eq j t)
      where
        by : (j ≡ t) ⊎ (j ≢ t) → SeesTags (slots_of (tagged_at c j)) r (if j == t then knowing else us j) m
        by (inr apart) = subst (λ d. SeesTags (slots_of (tagged_at c j)) r d m) (sym (there j apart)) (knows j low r its)
        by (inl same) = subst (λ n. SeesTags (slots_of (tagged_at c n)) r (if n == t then knowing else us n) m) (sym same)
            (subst (λ d. SeesTags (slots_of (tagged_at c t)) r d m) (sym here)
            (subst (λ r. SeesTags (slots_of (tagged_at c t)) r knowing m)
            (one-party r (its ∙ ap (λ n. teller_hart (slots_of (tagged_at c n)) r) same))
            (informed-sees q is l.party d v m (knows t less l.party mine) tells reads)))

    owns : (own : Form) (ys : List ℕ) → form_value own ys ≡ form_value (share_at k (length c.queues + t)).own xs
        → HasAtLeast (tagged_at c t) l.party knowing ys (record { own = own; owned = number 1 })
    owns own ys same = record {
      own = count-set-known l.party l.party (known l.party d + (told_count - known l.party d)) d ∙ has.own ∙ sym same;
      upto = (let past : count l.party d < owned_end q l.party knowing = told_owns q is l.party d (count l.party d) in
          omega (arith, past, has.own, same, value-number 1 ys));
    }
      where
        told_count : ℕ
        told_count = telling.told q l.party (count l.party d)

    says : SharesTold c h xs (owning c h x.code t k a l) vs
    says j low r its = by (cases_eq j t)
      where
        by : (j ≡ t) ⊎ (j ≢ t) → HasAtLeast (tagged_at c j) r (if j == t then knowing else us j) xs
            (get_or (owning c h x.code t k a l).shares (length c.queues + j) no_share)
        by (inr apart) = subst (λ d. HasAtLeast (tagged_at c j) r d xs (get_or (owning c h x.code t k a l).shares (length c.queues + j) no_share))
            (sym (there j apart))
            (subst (HasAtLeast (tagged_at c j) r (us j) xs)
            (sym (get_or-set_other k.shares (length c.queues + t) (length c.queues + j) _ no_share (λ same. apart (omega (arith, same))))) (told j low r its))
        by (inl same) = subst (λ n. HasAtLeast (tagged_at c n) r (if n == t then knowing else us n) xs
            (get_or (owning c h x.code t k a l).shares (length c.queues + n) no_share)) (sym same)
            (subst (λ d. HasAtLeast (tagged_at c t) r d xs (share_at (owning c h x.code t k a l) (length c.queues + t))) (sym here)
            (subst (HasAtLeast (tagged_at c t) r knowing xs) (sym (owning-share c h x.code t k a l))
            (subst (λ r. HasAtLeast (tagged_at c t) r knowing xs (record { own = (share_at k (length c.queues + t)).own; owned = number 1 }))
            (one-party r (its ∙ ap (λ n. teller_hart (slots_of (tagged_at c n)) r) same)) (owns (share_at k (length c.queues + t)).own xs refl))))

    -- what the access makes of the counts
    after : AllCounts
    after = told_by (tagged_at c) (length c.tagged) (queue_at c) (length c.queues) (own_of c) (length c.harts) h (access_of e) us

    learned : told_by (tagged_at c) (length c.tagged) (queue_at c) (length c.queues) (own_of c) (length c.harts) h (access_of e) us t ≡ knowing
    learned = ap (λ r. told_access q r (access_of e) d) l.mine ∙ ap (λ y. told_access q (Some l.party) y d) at-own-tag
        ∙ tag_loaded q is l.party d (count l.party d) v (omega arith) (omega (arith, is.some))
        ∙ ap (λ b. if b then knowing else d) tells

    stays : (j : ℕ) → j < length c.tagged → Stays (tagged_at c) (length c.tagged) (queue_at c) (length c.queues) (own_of c) (length c.harts) h xs k
        (told_by (tagged_at c) (length c.tagged) (queue_at c) (length c.queues) (own_of c) (length c.harts) h (access_of e) us) j
    stays j low = subst (λ y. Stays (tagged_at c) (length c.tagged) (queue_at c) (length c.queues) (own_of c) (length c.harts) h xs k
        (told_by (tagged_at c) (length c.tagged) (queue_at c) (length c.queues) (own_of c) (length c.harts) h y us) j) (sym loads)
        (load-stays (tagged_at c) (length c.tagged) (queue_at c) (length c.queues) (own_of c) (length c.harts) h xs k us (fine-tagged M o c ok) told
        (address (register_value s.registers l.rs1) l.offset) (load_width l.op) v j low)

    -- the first of both states says what is so
    pub told-first : (f : Form) → IsAmongAll c h xs (a ∷ []) (advanced s (number_read e)) (view_then (access_of e) m)
        (λ i. after_access (queue_at c i) (party_of (queue_at c i) h) (access_of e) (cs i))
        (λ j. told_access (slots_of (tagged_at c j)) (party_in (tagged_at c j) h) (access_of e) (us j))
    told-first f = elim ((leaf-goes M o c ok h x of s m cs vs e acts sees code size (owning c h x.code t k a l) f xs (next c h x.code t k a l ∷ [])
        (set-means (tagged_at c) (length c.tagged) (queue_at c) (length c.queues) (own_of c) (length c.harts) h xs k t _ k xs s m cs means)
        says (owning-next c h x.code t k a l f)).next runs) [
          | inr none ↦ absurd none
          | inl w ↦ subst (λ b. IsAmongAll c h xs (b ∷ []) (advanced s (number_read e)) (view_then (access_of e) m)
              (λ i. after_access (queue_at c i) (party_of (queue_at c i) h) (access_of e) (cs i))
              (λ j. told_access (slots_of (tagged_at c j)) (party_in (tagged_at c j) h) (access_of e) (us j))) l.first (inl (
                w.0,
                set-means (tagged_at c) (length c.tagged) (queue_at c) (length c.queues) (own_of c) (length c.harts) h xs k t u plain (w.0 ∷ xs)
                    (advanced s (number_read e)) (view_then (access_of e) m)
                    (λ i. after_access (queue_at c i) (party_of (queue_at c i) h) (access_of e) (cs i)) (record {
                      ranges = w.1.ranges;
                      pc = w.1.pc;
                      registers = w.1.registers;
                      words = w.1.words;
                      shares = λ j low r its. subst (HasShare (queue_at c j) r
                          (after_access (queue_at c j) (party_of (queue_at c j) h) (access_of e) (cs j)) (w.0 ∷ xs))
                          (other-lifted k.shares (length c.queues + t) j (record { own = (share_at k (length c.queues + t)).own; owned = number 1 })
                          (λ same. omega (arith, same, low))) (w.1.shares j low r its);
                    }),
                set-told (tagged_at c) (length c.tagged) (queue_at c) (length c.queues) (own_of c) (length c.harts) h xs k t u plain w.0
                    (told_by (tagged_at c) (length c.tagged) (queue_at c) (length c.queues) (own_of c) (length c.harts) h (access_of e) us)
                    (record {
                      long = length-map k.shares (share_by lifted);
                      same = λ n from y ys. same-by lifted ys (y ∷ ys) (λ g. value-lifted g y ys) k.shares n;
                    }) (λ j low apart. stays j low) (λ past. stays t less)
                    (λ r its. subst (λ d. HasAtLeast (tagged_at c t) r d (w.0 ∷ xs) u) (sym learned)
                    (subst (λ r. HasAtLeast (tagged_at c t) r knowing (w.0 ∷ xs) u) (one-party r its)
                    (owns (lifted (share_at k (length c.queues + t)).own) (w.0 ∷ xs) (value-lifted (share_at k (length c.queues + t)).own w.0 xs)))),
              ))
        ]
      where
        u : Share
        u = record { own = lifted (share_at k (length c.queues + t)).own; owned = number 1 }

        plain : KnownState
        plain = with_result k l.rd.number (next_pc k.pc)
            (told_value k.ranges (tagged_at c t) (tagged_at c t).codec l.party l.op (share_at k (length c.queues + t)).own 0)
