-- While no store to a tag is pending, no run stands still for long at a queue with tags: as long as nothing moves, a party that has to wait does so
-- because the queue is full, or empty, and it isn't both.
use Rattle.std.proofs.Common.{ℕ, ◌+◌, ◌<◌, ◌≤◌, ◌≡◌, ◌≢◌, ◌==◌, ◌⊎◌, inl, inr, if◌then◌else◌, Bool, true, false, Some, List, [], ◌∷◌, ◌++◌, length, refl, sym}
use Rattle.std.proofs.Common.{◌∙◌, ap, subst, arith, append_assoc, append-nil}
use Rattle.std.specs.Prelude.{All}
use Rattle.std.proofs.lemmas.List.Elements.{All-nil, All-cons, All-append, All-drop, All-head, All-tail}
use Rattle.std.proofs.lemmas.Bool.{cases_eq, eqb-true}
use Rattle.memory.specs.declared.writes.Write.{Write}
use Rattle.step_machine.specs.declared.events.Entry.{Entry}
use Rattle.step_machine.specs.Names.{OpeningValue, history_of, Access, nothing, load, store, exchange, fence, land, access_of, hart_of, is_own, own_store}
use Rattle.step_machine.specs.Names.{stored_by, land_of, pending, WellFormed}
use Rattle.step_machine.proofs.{pending-last, kept-front}
use Rattle.step_machine.proofs.Landings.{balanced}
use Rattle.store_buffers.proofs.OwnEntries.{own_parts}
use Rattle.queue_parties.specs.Parties.{Party, the_sender, the_receiver, other, QueueCounts, count, all_at, counts_from}
use Rattle.queue_parties.proofs.Parties.{Grows, counts-append, count-set}
use Rattle.slots_that_tell.specs.Slots.{Slots, IsSlots, gap, tag_of, is_tag}
use Rattle.slots_that_tell.specs.{told_access, after_entry, moved, moved_on}
use Rattle.slots_that_tell.proofs.Owned.{grows-after}
use Rattle.slots_that_tell.proofs.Runs.{look}
use Rattle.queue_certificates.specs.Certificates.{QueueCertificate, tagged_at, tagged_start, accepts}
use Rattle.queue_certificates.proofs.{tagged-fine, teller-is, fine-tagged, accepted_telling}
use Rattle.queue_progress.specs.{executed, all_moved, slots_at, teller_at, told_counts_at, HasToWait, IsToldStuck, TagsHaveLanded, told_within}
use Rattle.queue_progress.proofs.Moved.{all-grow, same-part, turn}
use Rattle.queue_progress.proofs.ToldGoing.{told_going}

-- no store among these is one of a tag
abbrev AreOffTags : Slots → List Write → Type 0
AreOffTags q ws = All (λ w. is_tag q w.addr w.width ≡ false) ws

stay-put : (q : Slots) (n : ℕ) (ws : List Write) → AreOffTags q ws → moved_on q n ws ≡ n
stay-put q n [] off = refl
stay-put q n (w ∷ ws) off = ap (λ k. moved_on q k ws) (ap (λ b. if b then n + 1 else n) (All-head (λ (v : Write). is_tag q v.addr v.width ≡ false) w ws off))
    ∙ stay-put q n ws (All-tail (λ (v : Write). is_tag q v.addr v.width ≡ false) w ws off)

-- whether an access is a load by which the party has to wait
waits? : (q : Slots) (p : Party) (d : QueueCounts) (y : Access) → HasToWait q p d y ⊎ (HasToWait q p d y → ⊥)
waits? q p d (load a width v) = by (cases_eq a (tag_of q (count p d))) (cases_eq width q.tag_width) (q.tells p (count p d) v) refl
  where
    by : (a ≡ tag_of q (count p d)) ⊎ (a ≢ tag_of q (count p d)) → (width ≡ q.tag_width) ⊎ (width ≢ q.tag_width) → (b : Bool)
        → q.tells p (count p d) v ≡ b → HasToWait q p d (load a width v) ⊎ (HasToWait q p d (load a width v) → ⊥)
    by (inr off) wide b tells = inr (λ w. off w.0)
    by (inl here) (inr off) b tells = inr (λ w. off w.1)
    by (inl here) (inl wide) false tells = inl (here, wide, tells)
    by (inl here) (inl wide) true tells = inr (λ w. absurd (let no : true ≡ false = sym tells ∙ w.2 in cc))
waits? q p d y = inr (λ w. w)

module _ (B M : ℕ) (o : OpeningValue) (c : QueueCertificate) (ok : accepts o c ≡ true) (t : ℕ) (less : t < length c.tagged) where
  abbrev q : Slots
  q = slots_at c t

  abbrev cnt : List Entry → QueueCounts
  cnt es = told_counts_at c t es

  is : IsSlots (slots_at c t)
  is = tagged-fine (tagged_at c t) (fine-tagged M o c ok t less)

  onward : (es fs : List Entry) → cnt (es ++ fs) ≡ counts_from (after_entry q) (cnt es) fs
  onward es fs = counts-append (after_entry q) (all_at (tagged_start c t)) es fs

  pub grown : (es fs : List Entry) → Grows (told_counts_at c t es) (told_counts_at c t (es ++ fs))
  grown es fs = subst (Grows (cnt es)) (sym (onward es fs)) (grows-after q (cnt es) fs)

  -- ---- a party's stores to tags move its count

  module _ (p : Party) where
    abbrev h : ℕ
    h = teller_at c t p

    off-stores : (es : List Entry) (e : Entry) → count p (cnt (es ++ e ∷ [])) ≡ count p (cnt es) → AreOffTags q (own_store h e)
    off-stores es e same = by (hart_of e == h) refl (access_of e) refl
      where
        none : AreOffTags q []
        none = All-nil (λ (w : Write). is_tag q w.addr w.width ≡ false)

        stored : (w : Write) → hart_of e ≡ h → access_of e ≡ store w → (b : Bool) → is_tag q w.addr w.width ≡ b → b ≡ false
        stored w mine does false off = refl
        stored w mine does true on = absurd (
            let moves : count p (cnt (es ++ e ∷ [])) ≡ count p (cnt es) + 1 =
            ap (count p) (onward es (e ∷ [])) ∙ ap (λ r. count p (told_access q r (access_of e) (cnt es))) (teller-is q is (hart_of e) p mine)
            ∙ ap (λ y. count p (told_access q (Some p) y (cnt es))) does ∙ count-set p (moved q (count p (cnt es)) w) (cnt es)
            ∙ ap (λ b. if b then count p (cnt es) + 1 else count p (cnt es)) on in
            omega (arith, moves, same))

        by : (b : Bool) → (hart_of e == h) ≡ b → (y : Access) → access_of e ≡ y → AreOffTags q (stored_by b y)
        by true here (store w) does = All-cons (λ (v : Write). is_tag q v.addr v.width ≡ false) w []
            (stored w (eqb-true (hart_of e) h here) does (is_tag q w.addr w.width) refl) none
        by true here nothing does = none
        by true here (load a width v) does = none
        by true here (exchange a old new) does = none
        by true here (fence full) does = none
        by true here land does = none
        by false here nothing does = none
        by false here (load a width v) does = none
        by false here (store w) does = none
        by false here (exchange a old new) does = none
        by false here (fence full) does = none
        by false here land does = none

    off-then : (es : List Entry) (e : Entry) → WellFormed B M (history_of o es) → count p (cnt (es ++ e ∷ [])) ≡ count p (cnt es)
        → AreOffTags q (pending h es) → AreOffTags q (pending h (es ++ e ∷ []))
    off-then es e run same off = subst (AreOffTags q) (sym (pending-last h es e (balanced B (history_of o es) h run.legal)))
        (All-drop (λ (w : Write). is_tag q w.addr w.width ≡ false) (land_of h e) (pending h es ++ own_store h e)
        (All-append (λ (w : Write). is_tag q w.addr w.width ≡ false) (pending h es) (own_store h e) off (off-stores es e same)))

  -- so while nothing moves none of them is pending
  still-landed : (row es : List Entry) → WellFormed B M (history_of o (es ++ row)) → all_moved (cnt (es ++ row)) ≤ all_moved (cnt es)
      → TagsHaveLanded q es → TagsHaveLanded q (es ++ row)
  still-landed [] es run same landed = subst (TagsHaveLanded q) (sym (append-nil es)) landed
  still-landed (e ∷ row) es run same landed =
      let all : (es ++ e ∷ []) ++ row ≡ es ++ e ∷ row = append_assoc es (e ∷ []) row in
      let one : all_moved (cnt es) ≤ all_moved (cnt (es ++ e ∷ [])) = all-grow (cnt es) (cnt (es ++ e ∷ [])) (grown es (e ∷ [])) in
      let rest : all_moved (cnt (es ++ e ∷ [])) ≤ all_moved (cnt (es ++ e ∷ row)) =
      subst (λ fs. all_moved (cnt (es ++ e ∷ [])) ≤ all_moved (cnt fs)) all
      (all-grow (cnt (es ++ e ∷ [])) (cnt ((es ++ e ∷ []) ++ row)) (grown (es ++ e ∷ []) row)) in
      subst (TagsHaveLanded q) all (still-landed row (es ++ e ∷ []) (subst (λ fs. WellFormed B M (history_of o fs)) (sym all) run)
      (subst (λ fs. all_moved (cnt fs) ≤ all_moved (cnt (es ++ e ∷ []))) (sym all) (omega (arith, same, one)))
      (λ p. off-then p es e (kept-front B M o es (e ∷ row) run)
      (same-part (cnt es) (cnt (es ++ e ∷ [])) (grown es (e ∷ [])) p (omega (arith, same, rest))) (landed p)))

  -- ---- a row in which the party executes enough instructions

  module _ (p : Party) where
    -- it has to wait only where there is no position for it, as long as nothing is pending
    no-position : (es : List Entry) (e : Entry) → WellFormed B M (history_of o (es ++ e ∷ [])) → TagsHaveLanded q es → hart_of e ≡ teller_at c t p
        → (y : Access) → access_of e ≡ y → HasToWait q p (cnt es) y → count (other p) (cnt es) + gap q (other p) ≤ count p (cnt es)
    no-position es e run landed mine (load a width v) does waits =
        let l = look B q (all_at (tagged_start c t)) o [] es e (accepted_telling B M o c ok (es ++ e ∷ []) run t less) p (count p (cnt es)) v mine
        (does ∙ ap (λ b. load b width v) waits.0 ∙ ap (λ w. load (tag_of q (count p (cnt es))) w v) waits.1) (omega arith) (omega (arith, is.some))
        waits.2 in
        let there : l.0 ≡ count (other p) (cnt es) = sym (stay-put q l.0 (pending (teller_at c t (other p)) es) (landed (other p))) ∙ l.2 in
        omega (arith, l.1, there)
    no-position es e run landed mine y does waits = absurd waits

    stuck? : (es : List Entry) (e : Entry) → is_own (teller_at c t p) e ≡ true → count p (cnt (es ++ e ∷ [])) ≡ count p (cnt es)
        → IsToldStuck c t p es e ⊎ HasToWait q p (cnt es) (access_of e)
    stuck? es e on stays = elim (waits? q p (cnt es) (access_of e)) [
      | inl waits ↦ inr waits
      | inr goes ↦ inl (record { stays = stays; goes = goes })
    ]

    goes-or-waits : (N : ℕ) → told_within o c (teller_at c t p) t N ≡ true → (es row : List Entry) → WellFormed B M (history_of o (es ++ row))
        → TagsHaveLanded q es → N < executed (teller_at c t p) row
        → (all_moved (cnt es) < all_moved (cnt (es ++ row))) ⊎ (count (other p) (cnt es) + gap q (other p) ≤ count p (cnt es))
    goes-or-waits N shown = turn B M o (teller_at c t p) p (told_counts_at c t) grown (IsToldStuck c t p) (λ es e. HasToWait q p (cnt es) (access_of e)) stuck?
        (TagsHaveLanded q) (λ mine theirs. theirs + gap q (other p) ≤ mine)
        (λ es front e run landed same on waits. no-position (es ++ front) e run
        (still-landed front es (kept-front B M o (es ++ front) (e ∷ []) run) same landed) (own_parts (teller_at c t p) e on).0 (access_of e) refl waits)
        N (told_going B M o c ok t p less N shown)

  -- ---- both parties

  pub told_stands : (S R : ℕ) → told_within o c (teller_at c t the_sender) t S ≡ true → told_within o c (teller_at c t the_receiver) t R ≡ true
      → (es row : List Entry) → WellFormed B M (history_of o (es ++ row)) → TagsHaveLanded (slots_at c t) es
      → S < executed (teller_at c t the_sender) row → R < executed (teller_at c t the_receiver) row
      → all_moved (told_counts_at c t es) < all_moved (told_counts_at c t (es ++ row))
  told_stands S R sends receives es row run landed enough also =
      by (goes-or-waits the_sender S sends es row run landed enough) (goes-or-waits the_receiver R receives es row run landed also)
    where
      by : (all_moved (cnt es) < all_moved (cnt (es ++ row))) ⊎ (count the_receiver (cnt es) + q.size ≤ count the_sender (cnt es))
          → (all_moved (cnt es) < all_moved (cnt (es ++ row))) ⊎ (count the_sender (cnt es) + 0 ≤ count the_receiver (cnt es))
          → all_moved (cnt es) < all_moved (cnt (es ++ row))
      by (inl more) two = more
      by (inr full) (inl more) = more
      by (inr full) (inr empty) = absurd (omega (arith, full, empty, is.some))
