-- What one entry makes of the counts that a hart knows, and what a party sees in both indices.
use Rattle.std.proofs.Common.{ℕ, ◌≤◌, ◌≡◌, ◌==◌, ◌&&◌, Bool, true, false, if◌then◌else◌, List, [], Option, Some, None, refl, sym, ◌∙◌, subst, arith}
use Rattle.memory.specs.Writes.{write}
use Rattle.step_machine.specs.declared.events.Entry.{Entry}
use Rattle.step_machine.specs.Names.{OpeningValue, Access, load, store, exchange, land, read_byte}
use Rattle.slot_queue.specs.{Queue, IsQueue, least_count, hart, index, moved, after_load, after_access, counts_after, KeepsAccess, FollowsOwnership}
use Rattle.queue_parties.specs.Parties.{Party, the_sender, the_receiver, other, QueueCounts, count, known, with_known, all_at}
use Rattle.slot_queue.proofs.{Side, Bounds, bounds, known-low, reads-other, sides-of, memory_at, own_index}
use Rattle.queue_parties.proofs.Parties.{harts-apart, count-set-other, known-set-count, count-set-known, known-set-other}
use Rattle.certified_runs.proofs.TwoParties.{IsOfParties}
use Rattle.queue_certificates.specs.OwnedRuns.{owning, limit, SeesIndices}

-- an access of the one party leaves what the other knows
module _ (q : Queue) (r : Party) (c : QueueCounts) where
  loaded-count : (a width v : ℕ) → count (other r) (after_load q r a width v c) ≡ count (other r) c
  loaded-count a width v = by (a == index q (other r) && width == q.index_width)
    where
      by : (b : Bool) → count (other r) (if b then with_known r (least_count q (known r c) v) c else c) ≡ count (other r) c
      by true = count-set-known r (other r) (least_count q (known r c) v) c
      by false = refl

  loaded-known : (a width v : ℕ) → known (other r) (after_load q r a width v c) ≡ known (other r) c
  loaded-known a width v = by (a == index q (other r) && width == q.index_width)
    where
      by : (b : Bool) → known (other r) (if b then with_known r (least_count q (known r c) v) c else c) ≡ known (other r) c
      by true = known-set-other r (least_count q (known r c) v) c
      by false = refl

  others-count : (y : Access) → count (other r) (after_access q (Some r) y c) ≡ count (other r) c
  others-count (load a width v) = loaded-count a width v
  others-count (store w) = count-set-other r (moved q r (count r c) w) c
  others-count (exchange a old new) = count-set-other r (moved q r (count r (after_load q r a 4 old c)) (write a 4 new)) (after_load q r a 4 old c)
      ∙ loaded-count a 4 old
  others-count other = refl

  others-known : (y : Access) → known (other r) (after_access q (Some r) y c) ≡ known (other r) c
  others-known (load a width v) = loaded-known a width v
  others-known (store w) = known-set-count r (other r) (moved q r (count r c) w) c
  others-known (exchange a old new) = known-set-count r (other r) (moved q r (count r (after_load q r a 4 old c)) (write a 4 new)) (after_load q r a 4 old c)
      ∙ loaded-known a 4 old
  others-known other = refl

nobodys : (q : Queue) (y : Access) (c : QueueCounts) → after_access q None y c ≡ c
nobodys q other c = refl

landed-counts : (q : Queue) (t : Option Party) (c : QueueCounts) → after_access q t land c ≡ c
landed-counts q (Some p) c = refl
landed-counts q None c = refl

landed-keeps : (q : Queue) (t : Option Party) (c : QueueCounts) → KeepsAccess q t c land
landed-keeps q (Some p) c = tt
landed-keeps q None c = tt

pub is_of_parties : (q : Queue) → IsQueue q → IsOfParties (owning q)
is_of_parties q is = record {
  parties = is.parties;
  counts = λ r y c. others-count q r c y;
  knows = λ r y c. others-known q r c y;
  nobodys = nobodys q;
  landed = landed-counts q;
  lands = landed-keeps q;
}

-- what a party's hart reads in the two indices
pub seen : (B : ℕ) (q : Queue) (n : ℕ) (o : OpeningValue) (es : List Entry) → FollowsOwnership B q (all_at n) o [] es → (p : Party) (h : ℕ) → h ≡ hart q p
    → SeesIndices q p (counts_after q (all_at n) es) (λ x. read_byte o es h x)
seen B q n o es f p h is = subst (λ g. SeesIndices q p (counts_after q (all_at n) es) (λ x. read_byte o es g x)) (sym is) (record {
  room = (sides p).room;
  own = own_index B q (all_at n) o [] es f p;
  there = m (other p);
  theirs = reads-other q o es c (other p) (m (other p)) (sides (other p)) (hart q p) (harts-apart q.sender q.receiver f.queue.parties p);
  from = known-low q f.queue o es c m sides p;
  upto = within p;
})
  where
    c : QueueCounts
    c = counts_after q (all_at n) es

    m : Party → ℕ
    m = memory_at q (all_at n) [] es

    sides : (t : Party) → Side q o es c t (m t)
    sides = sides-of B q (all_at n) o [] es f

    mine_of : (t : Party) → Bounds q c t (m t)
    mine_of t = bounds q o es c t (m t) (sides t)

    within : (p : Party) → m (other p) ≤ limit q p c
    within the_sender =
        omega (arith, (mine_of the_sender).known_there, (mine_of the_sender).there, (mine_of the_receiver).there, (mine_of the_receiver).count_end)
    within the_receiver =
        omega (arith, (mine_of the_receiver).known_there, (mine_of the_receiver).there, (mine_of the_sender).there, (mine_of the_sender).count_end)
