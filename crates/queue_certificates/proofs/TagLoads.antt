-- Loads where there are queues with tags: of a whole tag, after which a party may be told that it has the position, and of anything else.
use Rattle.std.proofs.Common.{ℕ, ℤ, ◌+◌, ◌^◌, ◌<◌, ◌≤◌, ◌≡◌, inl, inr, if◌then◌else◌, Bool, true, false, Option, Some, None, List, [], ◌∷◌, length, get_or}
use Rattle.std.proofs.Common.{refl, sym, ◌∙◌, ap, subst, arith}
use Rattle.std.specs.Prelude.{nat_lt, is_some}
use Rattle.std.proofs.lemmas.Bool.{ltb-true}
use Rattle.rv_decode.specs.declared.instruction.Reg.{Reg}
use Rattle.rv_decode.specs.declared.instruction.LoadOp.{LoadOp}
use Rattle.rv_decode.specs.declared.instruction.Instr.TheVariants.{Load}
use Rattle.hart.specs.{HartState, advanced, register_value, address, next_pc, extended, load_width}
use Rattle.hart.specs.declared.status.Status.TheVariants as status
use Rattle.step_machine.specs.declared.events.Entry.{Entry}
use Rattle.step_machine.specs.Names.{OpeningValue, Access, load, access_of, number_read}
use Rattle.slot_queue.specs.{Queue, IsQueue, TellsFull, party_of, after_access}
use Rattle.queue_parties.specs.Parties.{Party, count}
use Rattle.slots_that_tell.specs.{IsSlots, tag_of, teller_hart, after_load, told_access}
use Rattle.slots_that_tell.proofs.Owned.{mine-of}
use Rattle.queue_certificates.specs.{OwnWord, TellsEither, SeesTags, OwnsAllButTags, View, AllCounts, number_seen, ReadsFrom, view_then, ActsByCounts, number}
use Rattle.queue_certificates.specs.{lifted, Bounds, KnownValue, Share, no_share, KnownState, Has, MeansAt, Result, address_value, addresses, with_result}
use Rattle.queue_certificates.specs.{instruction_at, may_load, party_in, is_tagged, is_codec, HasAtLeast, AreTold, loads_rest, tag_position, told_value}
use Rattle.queue_certificates.specs.{other_value, when_told, after_tag, load_tells, looked_tag, tag_at, tag_by, at_tag}
use Rattle.queue_layouts.specs.Tagged.{slots_of}
use Rattle.queue_layouts.specs.declared.tagged.TaggedQueue.{TaggedQueue}
use Rattle.queue_certificates.proofs.Steps.{nobody_told, nothing_sent, IsNext, Goes}
use Rattle.queue_certificates.proofs.Steps as steps
use Rattle.queue_certificates.proofs.TagPlaces.{IsTagAt, tag-place, reads-rest}
use Rattle.queue_certificates.proofs.Accesses.{found-below}
use Rattle.queue_certificates.proofs.TagValues.{told-gives, other-gives}
use Rattle.queue_certificates.proofs.Results.{Gives}
use Rattle.queue_certificates.proofs.Forms.{value-lifted}
use Rattle.queue_certificates.proofs.TagCounts.{load-told}
use Rattle.queue_certificates.proofs.TagShares.{tagged-is, tagged-fine, teller-is}
use Rattle.queue_certificates.proofs.TagKept.{Keeps, AllKeep, keeps-same}
use Rattle.queue_certificates.proofs.TagNext.{IsAmongTold, told_by, Stays, among-kept, set-means, set-told, load-stays}
use Rattle.queue_certificates.proofs.NextAccess.{found-at}

module _ (M : ℕ) (o : OpeningValue) (queues : ℕ → Queue) (N : ℕ) (own_of : ℕ → List OwnWord) (H h : ℕ) (xs : List ℕ)
    (k : KnownState) (s : HartState) (m : View) (cs : AllCounts) (e : Entry)
    (acts : ActsByCounts M o N queues nobody_told nothing_sent h s m cs e) (size : 32 ≤ length s.registers)
    (fine : (i : ℕ) → i < N → IsQueue (queues i) × TellsFull (queues i) × ((queues i).index_width ≤ 4))
    (means : MeansAt queues N (own_of h) h xs k s m cs)
    (tagged : ℕ → TaggedQueue) (T : ℕ) (us : AllCounts) (are : (t : ℕ) → t < T → is_tagged (tagged t) ≡ true)
    (sees : (t : ℕ) → t < T → (p : Party) → h ≡ teller_hart (slots_of (tagged t)) p → SeesTags (slots_of (tagged t)) p (us t) m)
    (told : AreTold tagged T N h xs k us) where
  abbrev owns : ℕ → Bool
  owns = steps.owns M o queues N own_of H h xs k s m cs e acts size fine means

  abbrev Plain : List KnownState → Type 0
  Plain ks = Goes queues N own_of h owns xs ks m cs (access_of e) (advanced s (number_read e))

  is-slots : (t : ℕ) → t < T → IsSlots (slots_of (tagged t))
  is-slots t less = tagged-fine (tagged t) (are t less)

  -- what follows of the queues with tags
  abbrev Next : List KnownState → Type 0
  Next ts = (advanced s (number_read e)).status ≡ status.Running → IsAmongTold tagged T queues N own_of H h xs ts (advanced s (number_read e))
      (view_then (access_of e) m) (λ i. after_access (queues i) (party_of (queues i) h) (access_of e) (cs i))
      (told_by tagged T queues N own_of H h (access_of e) us)

  module _ (op : LoadOp) (rd rs1 : Reg) (offset : ℤ) (here : instruction_at s.code s.pc ≡ Some (Load op rd rs1 offset)) where
    abbrev a : ℕ
    a = address (register_value s.registers rs1) offset

    abbrev place : KnownValue
    place = address_value queues k rs1 offset

    abbrev around : Bounds
    around = addresses queues k rs1 offset

    abbrev y : Access
    y = load (address (register_value s.registers rs1) offset) (load_width op) (number_read e)

    points : (around.low ≤ a) × (a ≤ around.high)
    points = steps.points M o queues N own_of H h xs k s m cs e acts size fine means rs1 offset

    place-has : Has queues xs place a
    place-has = steps.address-has M o queues N own_of H h xs k s m cs e acts size fine means rs1 offset

    pub load-rest : (t : ℕ) → t < T → loads_rest tagged queues N k t (Some (Load op rd rs1 offset)) ≡ true → (p : Party)
        → h ≡ teller_hart (slots_of (tagged t)) p
        → OwnsAllButTags (slots_of (tagged t)) p (us t) (address (register_value s.registers rs1) offset) (load_width op)
    load-rest t less ok p at =
        reads-rest (tagged t) (is-slots t less) queues k.ranges xs means.ranges (get_or k.shares (N + t) no_share) p (us t) (told t less p at)
        (address_value queues k rs1 offset) (addresses queues k rs1 offset)
        (address (register_value s.registers rs1) offset) (load_width op) place-has points.0 points.1 ok

    load-stay : (t : ℕ) → t < T → Stays tagged T queues N own_of H h xs k (told_by tagged T queues N own_of H h y us) t
    load-stay = load-stays tagged T queues N own_of H h xs k us are told (address (register_value s.registers rs1) offset) (load_width op) (number_read e)

    -- a whole tag of queue t
    module _ (t : ℕ) (less : t < T) (p : Party) (party : party_in (tagged t) h ≡ Some p) (j : ℕ)
        (found : tag_position k.ranges (tagged t) (get_or k.shares (N + t) no_share) place (load_width op) ≡ Some j)
        (may : may_load queues N h k around (load_width op) None ≡ true) (is : access_of e ≡ y) where
      mine : h ≡ teller_hart (slots_of (tagged t)) p
      mine = mine-of (slots_of (tagged t)) (is-slots t less) p h party

      has : HasAtLeast (tagged t) p (us t) xs (get_or k.shares (N + t) no_share)
      has = told t less p mine

      at : IsTagAt (tagged t) (is-slots t less) queues k.ranges xs means.ranges (get_or k.shares (N + t) no_share) (count p (us t)) has.own
          (address (register_value s.registers rs1) offset) (load_width op) j
      at = tag-place (tagged t) (is-slots t less) queues k.ranges xs means.ranges (get_or k.shares (N + t) no_share) (count p (us t)) has.own
          (address_value queues k rs1 offset) (address (register_value s.registers rs1) offset) (load_width op) j place-has found

      read : number_read e ≡ number_seen m (address (register_value s.registers rs1) offset) (load_width op)
      read = subst (ReadsFrom m) is acts.reads

      number-is : number_read e ≡ number_seen m (tag_of (slots_of (tagged t)) (count p (us t) + j)) (tagged t).tag_width
      number-is = read ∙ ap (λ w. number_seen m (address (register_value s.registers rs1) offset) w) at.whole
          ∙ ap (λ b. number_seen m b (tagged t).tag_width) at.place

      low : number_read e < 256 ^ load_width op
      low = steps.read-small M o queues N own_of H h xs k s m cs e acts size fine means op (address (register_value s.registers rs1) offset) read

      codec-fine : is_codec (tagged t) (tagged t).codec ≡ true
      codec-fine = (tagged-is (tagged t) (are t less)).codec

      leads : (r : Result) → Gives queues xs r (extended op (number_read e)) → (advanced s (number_read e)).status ≡ status.Running
          → IsNext queues N own_of h xs (with_result k rd.number (next_pc k.pc) r) (advanced s (number_read e)) (view_then (access_of e) m)
          (λ i. after_access (queues i) (party_of (queues i) h) (access_of e) (cs i))
      leads r gives runs = elim (g.next runs) [
        | inl w ↦ w
        | inr none ↦ absurd none
      ]
        where
          g : Plain (with_result k rd.number (next_pc k.pc) r ∷ [])
          g = steps.load-leads M o queues N own_of H h xs k s m cs e acts size fine means op rd rs1 offset (with_result k rd.number (next_pc k.pc) r)
              (found-at s e acts.can (Load op rd rs1 offset) here)
              (λ z read pc regs. steps.load-gives M o queues N own_of H h xs k s m cs e acts size fine means op rd
              (address (register_value s.registers rs1) offset) (addresses queues k rs1 offset) z points.0 points.1 may r gives pc regs)

      stays : (i : ℕ) → i < T → Stays tagged T queues N own_of H h xs k (told_by tagged T queues N own_of H h (access_of e) us) i
      stays i under = subst (λ y. Stays tagged T queues N own_of H h xs k (told_by tagged T queues N own_of H h y us) i) (sym is) (load-stay i under)

      lifted-keeps : (r : Result) → Keeps N k (with_result k rd.number (next_pc k.pc) r)
      lifted-keeps r = keeps-same N k (with_result k rd.number (next_pc k.pc) r) refl

      still-told : (r : Result) (x : ℕ) → AreTold tagged T N h (x ∷ xs) (with_result k rd.number (next_pc k.pc) r)
          (told_by tagged T queues N own_of H h (access_of e) us)
      still-told r x i under p at = stays i under p at x _ ((lifted-keeps r).same (N + i) (omega arith) x xs)

      when-told : (slots_of (tagged t)).tells p (count p (us t) + j) (number_read e) ≡ true
          → Gives queues xs (told_value k.ranges (tagged t) (tagged t).codec p op (get_or k.shares (N + t) no_share).own j) (extended op (number_read e))
      when-told tells = told-gives queues xs (get_or k.shares (N + t) no_share).own (count p (us t)) has.own (tagged t) k.ranges means.ranges codec-fine
          p op j (number_read e) at.whole low tells

      -- it owns up to there, then
      owns-then : (slots_of (tagged t)).tells p (count p (us t) + j) (number_read e) ≡ true → (x : ℕ) (r : Party) → h ≡ teller_hart (slots_of (tagged t)) r
          → HasAtLeast (tagged t) r (told_by tagged T queues N own_of H h (access_of e) us t) (x ∷ xs)
          (record { own = lifted (get_or k.shares (N + t) no_share).own; owned = number (j + 1) })
      owns-then tells x r at-r = subst
          (λ r. HasAtLeast (tagged t) r (told_by tagged T queues N own_of H h (access_of e) us t) (x ∷ xs)
          (record { own = lifted (get_or k.shares (N + t) no_share).own; owned = number (j + 1) })) same-party
          (subst (λ c. HasAtLeast (tagged t) p c (x ∷ xs) (record { own = lifted (get_or k.shares (N + t) no_share).own; owned = number (j + 1) }))
          (sym after) (load-told (tagged t) (is-slots t less) p (us t) xs (x ∷ xs) (get_or k.shares (N + t) no_share) has (number_read e) j at.near tells
          (lifted (get_or k.shares (N + t) no_share).own) (value-lifted (get_or k.shares (N + t) no_share).own x xs)))
        where
          same-party : p ≡ r
          same-party = let same : ◌≡◌ {A = Option Party} (Some p) (Some r) =
              sym party ∙ teller-is (slots_of (tagged t)) (is-slots t less) h r at-r in cc

          after : told_by tagged T queues N own_of H h (access_of e) us t
              ≡ after_load (slots_of (tagged t)) p (tag_of (slots_of (tagged t)) (count p (us t) + j)) (tagged t).tag_width (number_read e) (us t)
          after = ap (λ y. told_access (slots_of (tagged t)) (party_in (tagged t) h) y (us t)) is
              ∙ ap (λ r. told_access (slots_of (tagged t)) r
              (load (address (register_value s.registers rs1) offset) (load_width op) (number_read e)) (us t)) party
              ∙ ap (λ b. after_load (slots_of (tagged t)) p b (load_width op) (number_read e) (us t)) at.place
              ∙ ap (λ w. after_load (slots_of (tagged t)) p (tag_of (slots_of (tagged t)) (count p (us t) + j)) w (number_read e) (us t)) at.whole

      tag-next : Next (after_tag tagged N k p op rd.number t j (get_or k.shares (N + t) no_share))
      tag-next runs = by (nat_lt j (get_or k.shares (N + t) no_share).owned.constant) refl
        where
          known-sees : SeesTags (slots_of (tagged t)) p (us t) m
          known-sees = sees t less p mine

          either : TellsEither (slots_of (tagged t)) p (count p (us t) + j) (number_read e)
          either = subst (TellsEither (slots_of (tagged t)) p (count p (us t) + j)) (sym number-is)
              (known-sees.either (count p (us t) + j) (omega arith) (omega (arith, at.near)))

          others : (u : Bool) → (slots_of (tagged t)).tells p (count p (us t) + j) (number_read e) ≡ u
              → IsAmongTold tagged T queues N own_of H h xs
              (when_told tagged N k p op rd.number t j (get_or k.shares (N + t) no_share)
              ∷ with_result k rd.number (next_pc k.pc)
              (other_value k.ranges (tagged t) (tagged t).codec p op (get_or k.shares (N + t) no_share).own j) ∷ [])
              (advanced s (number_read e)) (view_then (access_of e) m) (λ i. after_access (queues i) (party_of (queues i) h) (access_of e) (cs i))
              (told_by tagged T queues N own_of H h (access_of e) us)
          others true tells =
              let r : Result = told_value k.ranges (tagged t) (tagged t).codec p op (get_or k.shares (N + t) no_share).own j in
              let w = leads (told_value k.ranges (tagged t) (tagged t).codec p op (get_or k.shares (N + t) no_share).own j) (when-told tells) runs in
              let u : Share = record { own = lifted (get_or k.shares (N + t) no_share).own; owned = number (j + 1) } in inl (
                w.0,
                set-means tagged T queues N own_of H h xs k t u (with_result k rd.number (next_pc k.pc) r) (w.0 ∷ xs) (advanced s (number_read e))
                    (view_then (access_of e) m) (λ i. after_access (queues i) (party_of (queues i) h) (access_of e) (cs i)) w.1,
                set-told tagged T queues N own_of H h xs k t u (with_result k rd.number (next_pc k.pc) r) w.0
                    (told_by tagged T queues N own_of H h (access_of e) us) (lifted-keeps r) (λ i under far. stays i under) (λ past. stays t less)
                    (owns-then tells w.0),
              )
          others false not-told = inr (inl (
            w.0,
            w.1,
            still-told (other_value k.ranges (tagged t) (tagged t).codec p op (get_or k.shares (N + t) no_share).own j) w.0,
          ))
            where
              gives : Gives queues xs (other_value k.ranges (tagged t) (tagged t).codec p op (get_or k.shares (N + t) no_share).own j)
                  (extended op (number_read e))
              gives = elim either [
                | inl tells ↦ absurd (let no : true ≡ false = sym tells ∙ not-told in cc)
                | inr w ↦ other-gives queues xs (get_or k.shares (N + t) no_share).own (count p (us t)) has.own (tagged t) k.ranges means.ranges codec-fine
                    p op j (number_read e) at.whole low w.0 w.1 w.2
              ]

              w : IsNext queues N own_of h xs (with_result k rd.number (next_pc k.pc)
                  (other_value k.ranges (tagged t) (tagged t).codec p op (get_or k.shares (N + t) no_share).own j)) (advanced s (number_read e))
                  (view_then (access_of e) m) (λ i. after_access (queues i) (party_of (queues i) h) (access_of e) (cs i))
              w = leads (other_value k.ranges (tagged t) (tagged t).codec p op (get_or k.shares (N + t) no_share).own j) gives runs

          by : (u : Bool) → nat_lt j (get_or k.shares (N + t) no_share).owned.constant ≡ u
              → IsAmongTold tagged T queues N own_of H h xs
              (if u then with_result k rd.number (next_pc k.pc)
              (told_value k.ranges (tagged t) (tagged t).codec p op (get_or k.shares (N + t) no_share).own j) ∷ [] else
              when_told tagged N k p op rd.number t j (get_or k.shares (N + t) no_share)
              ∷ with_result k rd.number (next_pc k.pc)
              (other_value k.ranges (tagged t) (tagged t).codec p op (get_or k.shares (N + t) no_share).own j) ∷ [])
              (advanced s (number_read e)) (view_then (access_of e) m) (λ i. after_access (queues i) (party_of (queues i) h) (access_of e) (cs i))
              (told_by tagged T queues N own_of H h (access_of e) us)
          by false beyond = others ((slots_of (tagged t)).tells p (count p (us t) + j) (number_read e)) refl
          by true under =
              let less-j : j < (get_or k.shares (N + t) no_share).owned.constant = ltb-true j (get_or k.shares (N + t) no_share).owned.constant under in
              let tells : (slots_of (tagged t)).tells p (count p (us t) + j) (number_read e) ≡ true =
              ap ((slots_of (tagged t)).tells p (count p (us t) + j)) number-is
              ∙ known-sees.owned (count p (us t) + j) (omega arith) (omega (arith, less-j, has.own, has.upto)) in
              let w = leads (told_value k.ranges (tagged t) (tagged t).codec p op (get_or k.shares (N + t) no_share).own j) (when-told tells) runs in
              inl (w.0, w.1, still-told (told_value k.ranges (tagged t) (tagged t).codec p op (get_or k.shares (N + t) no_share).own j) w.0)

    pub load-next : (ks ts : List KnownState) → Plain ks → AllKeep N k ks → access_of e ≡ y → (look : Option ℕ)
        → looked_tag tagged T N h k place (load_width op) ≡ look
        → load_tells tagged T queues N own_of H h k op rd.number place around look ks ≡ Some ts → Next ts
    load-next ks ts g keeps is None looked found = subst Next (let same : ks ≡ ts = cc in same) (λ runs.
        among-kept tagged T queues N own_of H h xs k ks (advanced s (number_read e)) (view_then (access_of e) m)
        (λ i. after_access (queues i) (party_of (queues i) h) (access_of e) (cs i)) (told_by tagged T queues N own_of H h (access_of e) us)
        (λ t less. subst (λ y. Stays tagged T queues N own_of H h xs k (told_by tagged T queues N own_of H h y us) t) (sym is) (load-stay t less))
        keeps (g.next runs))
    load-next ks ts g keeps is (Some t) looked found = by (may_load queues N h k around (load_width op) None) refl found
      where
        less : t < T
        less = (found-below T (λ t. is_some (tag_at tagged T N h k place (load_width op) t)) t looked).0

        at-tag : (r : Option Party) → party_in (tagged t) h ≡ r → (j : Option ℕ)
            → tag_by tagged N k r place (load_width op) t ≡ j
            → may_load queues N h k around (load_width op) None ≡ true → at_tag tagged N k r op rd.number t j ≡ Some ts → Next ts
        at-tag None party j at may found = absurd (cc)
        at-tag (Some p) party None at may found = absurd (cc)
        at-tag (Some p) party (Some j) at may found = subst Next
            (let same : after_tag tagged N k p op rd.number t j (get_or k.shares (N + t) no_share) ≡ ts = cc in same)
            (tag-next t less p party j at may is)

        by : (u : Bool) → may_load queues N h k around (load_width op) None ≡ u
            → (if u then at_tag tagged N k (party_in (tagged t) h) op rd.number t
            (tag_at tagged T N h k place (load_width op) t) else None) ≡ Some ts → Next ts
        by false off found = absurd (cc)
        by true ok found = at-tag (party_in (tagged t) h) refl (tag_at tagged T N h k place (load_width op) t) refl ok found
