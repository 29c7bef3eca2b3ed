-- A row of instructions that are stuck at a queue with tags is no longer than the party's graph has: where it may learn that the slot is its own
-- it does.
use Rattle.std.proofs.Common.{ℕ, ◌+◌, ◌<◌, ◌≤◌, ◌≡◌, ◌==◌, Bool, true, false, Option, None, Some, List, [], ◌∷◌, ◌++◌, length, refl, sym, ◌∙◌, ap}
use Rattle.std.proofs.Common.{subst, arith}
use Rattle.std.proofs.lemmas.Bool.{and_parts, eqb-true}
use Rattle.rv_decode.specs.declared.instruction.Instr.{Instr}
use Rattle.rv_decode.specs.declared.instruction.Instr.TheVariants.{Load}
use Rattle.hart.specs.{HartState, advanced}
use Rattle.step_machine.specs.declared.events.Entry.{Entry}
use Rattle.step_machine.specs.Names.{HartOpeningValue, OpeningValue, history_of, load, access_of, number_read, WellFormed}
use Rattle.queue_parties.specs.Parties.{Party, count, all_at}
use Rattle.queue_parties.proofs.Parties.{counts-append}
use Rattle.slots_that_tell.specs.Slots.{Slots, IsSlots, tag_of}
use Rattle.slots_that_tell.specs.Telling.{teller_of, told_access, after_entry}
use Rattle.queue_certificates.specs.{view_then, Form, form_value, KnownState, instruction_at, share_at, QueueCertificate, tagged_at, tagged_start, accepts}
use Rattle.queue_certificates.specs.{next_states}
use Rattle.queue_certificates.proofs.{tagged-fine, teller-is, OfHart, of-hart, fine-tagged}
use Rattle.queue_progress.specs.{code_of, moves, follow_further, executed, counts_at, EachAfter, slots_at, teller_at, told_counts_at, HasToWait}
use Rattle.queue_progress.specs.{IsToldStuck, is_load, learns, may_learn, told_ranks, told_within}
use Rattle.queue_progress.proofs.Leaves.{moved}
use Rattle.queue_progress.proofs.Rows.{Executes, GoesFirst, Sees, Told, Then, ThenTold}
use Rattle.queue_progress.proofs.Falling.{bounded}
use Rattle.queue_progress.proofs.ToldLoads.{IsTagLoad, tag-load}
use Rattle.queue_progress.proofs.ToldLooks.{at-own-tag, told-first}

-- two states may follow, in the first of which a position more is owned
record Learns (k : KnownState) (i : ℕ) (following : List KnownState) : Type 0 where
  first : KnownState
  other : KnownState
  are : following ≡ first ∷ other ∷ []
  none : (share_at k i).owned.constant ≡ 0
  one : (share_at first i).owned.constant ≡ 1

learning : (k : KnownState) (i : ℕ) (following : List KnownState) → learns i (share_at k i) (Some following) ≡ true → Learns k i following
learning k i [] ok = absurd (cc)
learning k i (a ∷ []) ok = absurd (cc)
learning k i (a ∷ z ∷ y ∷ rest) ok = absurd (cc)
learning k i (a ∷ z ∷ []) ok =
    let parts = and_parts ((share_at k i).owned.constant == 0) ((share_at a i).owned.constant == 1) ok in record {
      first = a;
      other = z;
      are = refl;
      none = eqb-true (share_at k i).owned.constant 0 parts.0;
      one = eqb-true (share_at a i).owned.constant 1 parts.1;
    }

module _ (B M : ℕ) (o : OpeningValue) (c : QueueCertificate) (ok : accepts o c ≡ true) (t : ℕ) (p : Party) (less : t < length c.tagged) where
  abbrev h : ℕ
  h = teller_at c t p

  abbrev i : ℕ
  i = length c.queues + t

  abbrev q : Slots
  q = slots_at c t

  is : IsSlots (slots_at c t)
  is = tagged-fine (tagged_at c t) (fine-tagged M o c ok t less)

  module _ (xs : List ℕ) (k : KnownState) (d : Form) (s : HartState) (done : List Entry) (e : Entry) (at : Executes B M o c ok h xs k d s done e)
      (stuck : IsToldStuck c t p done e) where
    pub moves-none : moves c h (code_of o h) i k d ≡ true → ⊥
    moves-none goes =
        let on : form_value (share_at k i).own xs < count p (ThenTold B M o c ok h done e t) =
        moved c h i (count p (ThenTold B M o c ok h done e t)) (share_at k i) xs at.following (advanced s (number_read e))
        (view_then (access_of e) (Sees B M o c ok h done)) (Then B M o c ok h done e) (ThenTold B M o c ok h done e)
        (λ k y means told. (told t less p refl).own) (subst (λ ts. follow_further i (share_at k i) ts ≡ true) at.follow goes) at.among in
        let own : count p (told_counts_at c t done) ≡ form_value (share_at k i).own xs = (at.told t less p refl).own in
        let same : count p (ThenTold B M o c ok h done e t) ≡ count p (told_counts_at c t done) =
        ap (λ g. count p (told_access (slots_at c t) (teller_of (slots_at c t) g) (access_of e) (told_counts_at c t done))) (sym at.acts.mine)
        ∙ sym (ap (count p) (counts-append (after_entry (slots_at c t)) (all_at (tagged_start c t)) done (e ∷ []))) ∙ stuck.stays in
        omega (arith, on, own, same)

    -- where it may learn that the slot is its own
    module _ (learns-it : may_learn c h (code_of o h) i k d ≡ true) where
      parts : (is_load (instruction_at (code_of o h) k.pc) ≡ true) × (learns i (share_at k i) (next_states c h (code_of o h) k d) ≡ true)
      parts = and_parts (is_load (instruction_at (code_of o h) k.pc)) (learns i (share_at k i) (next_states c h (code_of o h) k d)) learns-it

      two-follow : Learns k i at.following
      two-follow = learning k i at.following (subst (λ ts. learns i (share_at k i) ts ≡ true) at.follow parts.1)

      abbrev opens : HartOpeningValue
      opens = at.acts.opens

      code-is : code_of o h ≡ at.acts.opens.code
      code-is = at.code ∙ at.acts.code

      loads : IsTagLoad c h at.acts.opens.code t k two-follow.first
      loads = by (instruction_at (code_of o h) k.pc) refl parts.0
        where
          by : (j : Option Instr) → instruction_at (code_of o h) k.pc ≡ j → is_load j ≡ true → IsTagLoad c h at.acts.opens.code t k two-follow.first
          by None here loading = absurd (cc)
          by (Some (Load op rd rs1 offset)) here loading = subst (λ ws. IsTagLoad c h ws t k two-follow.first) code-is
              (tag-load c h (code_of o h) t k d two-follow.first two-follow.other two-follow.none two-follow.one op rd rs1 offset here
              (at.follow ∙ ap (λ ts. Some ts) two-follow.are))
          by (Some j) here loading = absurd (cc)

      party : loads.party ≡ p
      party = let same : ◌≡◌ {A = Option Party} (Some loads.party) (Some p) = sym loads.mine ∙ teller-is (slots_at c t) is h p refl in cc

      of : OfHart M o c ok h at.acts.opens
      of = of-hart M o c ok h at.acts.opens at.acts.is

      look : access_of e ≡ load (tag_of (slots_at c t) (count loads.party (told_counts_at c t done))) (tagged_at c t).tag_width (number_read e)
      look = at-own-tag M o c ok h at.acts.opens of s (Sees B M o c ok h done) (λ j. counts_at c j done)
          (Told B M o c ok h done) e at.acts at.knows at.acts.code at.acts.size t less k two-follow.first loads xs at.means at.told at.runs

      tells : (slots_at c t).tells loads.party (count loads.party (told_counts_at c t done)) (number_read e) ≡ true
      tells = by ((slots_at c t).tells loads.party (count loads.party (told_counts_at c t done)) (number_read e)) refl
        where
          by : (b : Bool) → (slots_at c t).tells loads.party (count loads.party (told_counts_at c t done)) (number_read e) ≡ b → b ≡ true
          by true its = refl
          by false others = absurd (stuck.goes (subst (λ r. HasToWait (slots_at c t) r (told_counts_at c t done) (access_of e)) party
              (subst (HasToWait (slots_at c t) loads.party (told_counts_at c t done)) (sym look) (refl, refl, others))))

      pub goes-first : GoesFirst B M o c ok h xs at.following s done e
      goes-first = record {
        first = two-follow.first;
        others = two-follow.other ∷ [];
        are = two-follow.are;
        among = told-first M o c ok h at.acts.opens of s (Sees B M o c ok h done) (λ j. counts_at c j done)
            (Told B M o c ok h done) e at.acts at.knows at.acts.code at.acts.size t less k two-follow.first loads xs at.means at.told at.runs tells d;
      }

  pub told_going : (N : ℕ) → told_within o c (teller_at c t p) t N ≡ true → (es row : List Entry)
      → WellFormed B M (history_of o (es ++ row)) → EachAfter (teller_at c t p) (IsToldStuck c t p) es row → executed (teller_at c t p) row ≤ N
  told_going = bounded B M o c ok h (moves c h (code_of o h) i) (may_learn c h (code_of o h) i) (IsToldStuck c t p)
      (λ xs k d s done e at goes stuck. moves-none xs k d s done e at stuck goes)
      (λ xs k d s done e at learns-it stuck. goes-first xs k d s done e at stuck learns-it) (told_ranks c (teller_at c t p) t)
