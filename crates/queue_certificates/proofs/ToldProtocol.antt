-- The protocol of slots that tell as one of two parties: whose counts an access leaves, and what a party reads in its tags.
use Rattle.std.proofs.Common.{ℕ, ◌+◌, ◌<◌, ◌≤◌, ◌≡◌, inl, inr, Bool, true, false, List, [], Option, Some, None, refl, ◌∙◌, subst, arith}
use Rattle.std.proofs.lemmas.Bool.{cases_lt}
use Rattle.memory.specs.Writes.{write}
use Rattle.step_machine.specs.declared.events.Entry.{Entry}
use Rattle.step_machine.specs.Names.{OpeningValue, Access, load, store, exchange, land, read}
use Rattle.queue_parties.specs.Parties.{Party, the_sender, the_receiver, other, QueueCounts, count, known, IsWindow}
use Rattle.queue_parties.proofs.Parties.{twice, count-set-other, known-set-count, known-set-other}
use Rattle.certified_runs.specs.Views.{view_of}
use Rattle.certified_runs.proofs.TwoParties.{IsOfParties}
use Rattle.slots_that_tell.specs.Slots.{Slots, IsSlots, gap, tag_of}
use Rattle.slots_that_tell.specs.{teller_hart, owned_end, moved, after_load, told_access, TellsAccess, told_counts, FollowsTelling}
use Rattle.slots_that_tell.proofs.Looks.{false_tag}
use Rattle.slots_that_tell.proofs.Owned.{loaded, loaded-count}
use Rattle.slots_that_tell.proofs.Runs.{memory_counts, held-of, window}
use Rattle.slots_that_tell.proofs.Sides.{Held}
use Rattle.queue_certificates.specs.ToldRuns.{TellsEither, SeesTags, telling}
use Rattle.queue_certificates.proofs.ToldTags.{other_tag}

-- an access of the one party leaves what the other knows
module _ (q : Slots) (r : Party) where
  loaded-known : (a width v : ℕ) (c : QueueCounts) → known (other r) (after_load q r a width v c) ≡ known (other r) c
  loaded-known a width v c = grind (arith, loaded, known-set-other)

  others-count : (y : Access) (c : QueueCounts) → count (other r) (told_access q (Some r) y c) ≡ count (other r) c
  others-count (load a width v) c = loaded-count q r (other r) a width v c
  others-count (store w) c = count-set-other r (moved q (count r c) w) c
  others-count (exchange a old new) c =
      count-set-other r (moved q (count r (after_load q r a 4 old c)) (write a 4 new)) (after_load q r a 4 old c) ∙ loaded-count q r (other r) a 4 old c
  others-count other c = refl

  others-known : (y : Access) (c : QueueCounts) → known (other r) (told_access q (Some r) y c) ≡ known (other r) c
  others-known (load a width v) c = loaded-known a width v c
  others-known (store w) c = known-set-count r (other r) (moved q (count r c) w) c
  others-known (exchange a old new) c =
      known-set-count r (other r) (moved q (count r (after_load q r a 4 old c)) (write a 4 new)) (after_load q r a 4 old c) ∙ loaded-known a 4 old c
  others-known other c = refl

nobodys : (q : Slots) (y : Access) (c : QueueCounts) → told_access q None y c ≡ c
nobodys q other c = refl

landed : (q : Slots) (t : Option Party) (c : QueueCounts) → told_access q t land c ≡ c
landed q (Some p) c = refl
landed q None c = refl

lands : (q : Slots) (t : Option Party) (c : QueueCounts) → TellsAccess q t c land
lands q (Some p) c = tt
lands q None c = tt

pub is_of_parties : (q : Slots) → IsSlots q → IsOfParties (telling q)
is_of_parties q is = record {
  parties = is.parties;
  counts = others-count q;
  knows = others-known q;
  nobodys = nobodys q;
  landed = landed q;
  lands = lands q;
}

-- what a party's hart reads in the tags of its positions
pub sees_tags : (B : ℕ) (q : Slots) (start : QueueCounts) (o : OpeningValue) (es : List Entry) → FollowsTelling B q start o [] es → (p : Party)
    → SeesTags q p (told_counts q start es) (view_of o es (teller_hart q p))
sees_tags B q start o es f p = record { room = (held.side p).room; round = round p; owned = owned; either = either }
  where
    c : QueueCounts
    c = told_counts q start es

    m : Party → ℕ
    m = memory_counts q (λ t. count t start) [] es

    held : Held q o es c m
    held = held-of B q start o [] es f

    w : IsWindow q.size c
    w = window B q start o [] es f

    round : (t : Party) → owned_end q t c ≤ count t c + q.size
    round the_sender = omega (arith, w.known_taken, w.taken, w.known_published)
    round the_receiver = omega (arith, w.known_published, w.published, w.known_taken)

    owned : (k : ℕ) → count p c ≤ k → k < owned_end q p c → q.tells p k (read o es (teller_hart q p) (tag_of q k) q.tag_width) ≡ true
    owned k from below = by (q.tells p k (read o es (teller_hart q p) (tag_of q k) q.tag_width)) refl
      where
        by : (b : Bool) → q.tells p k (read o es (teller_hart q p) (tag_of q k) q.tag_width) ≡ b → b ≡ true
        by true on = refl
        by false off =
            let one_round : owned_end q p c ≤ count p c + q.size = round p in
            let theirs : m (other p) + gap q (other p) ≤ k = false_tag q f.slots o es c m held p k from (omega (arith, below, one_round)) off in
            let knows : known p c ≤ m (other p) = subst (λ t. known t c ≤ m (other p)) (twice p) (held.side (other p)).known_less in
            absurd (omega (arith, below, theirs, knows))

    either : (k : ℕ) → count p c ≤ k → k < count p c + q.size → TellsEither q p k (read o es (teller_hart q p) (tag_of q k) q.tag_width)
    either k from near = elim (cases_lt k (m (other p) + gap q (other p))) [
      | inr theirs ↦ inr (other_tag q f.slots o es c m held p k from near theirs)
      | inl mine ↦ by (q.tells p k (read o es (teller_hart q p) (tag_of q k) q.tag_width)) refl mine
    ]
      where
        by : (b : Bool) → q.tells p k (read o es (teller_hart q p) (tag_of q k) q.tag_width) ≡ b → k < m (other p) + gap q (other p)
            → TellsEither q p k (read o es (teller_hart q p) (tag_of q k) q.tag_width)
        by true on mine = inl on
        by false off mine =
            let theirs : m (other p) + gap q (other p) ≤ k = false_tag q f.slots o es c m held p k from near off in absurd (omega (arith, mine, theirs))
