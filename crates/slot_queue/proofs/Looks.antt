-- What a load of the other's index says, and which counts an access leaves.
use Rattle.std.proofs.Common.{ℕ, ◌+◌, ◌<◌, ◌≤◌, ◌≡◌, ◌≢◌, ◌==◌, ◌&&◌, ◌⊎◌, inl, inr, Bool, true, false, if◌then◌else◌, List, None, refl, sym, ◌∙◌, ap}
use Rattle.std.proofs.Common.{subst, arith}
use Rattle.std.specs.Prelude.{unwrap_or}
use Rattle.memory.proofs.Bytes.{joined-same}
use Rattle.step_machine.specs.declared.events.Entry.{Entry}
use Rattle.step_machine.specs.Names.{OpeningValue, pending, memory_byte, read_byte, read}
use Rattle.store_buffers.proofs.Reading.{passed_over}
use Rattle.queue_parties.specs.Parties.{Party, the_sender, the_receiver, other, QueueCounts, count, known, with_known}
use Rattle.queue_parties.proofs.Parties.{both-equal, harts-apart, two, twice, count-set-known, known-set, known-set-other}
use Rattle.slot_queue.specs.{Queue, index_word, least_count, IsQueue, hart, index, end, after_load, moved_on}
use Rattle.slot_queue.proofs.Codes.{least-near, least-low}
use Rattle.slot_queue.proofs.Sides.{Side, moved_on-more}

-- how far past what it knows a party owns
abbrev pub allowance : Queue → Party → ℕ
allowance q the_sender = q.capacity
allowance q the_receiver = 0

pub end-is : (q : Queue) (r : Party) (c : QueueCounts) → end q r c ≡ known r c + allowance q r
end-is q the_sender c = refl
end-is q the_receiver c = omega arith

pub allowances : (q : Queue) (r : Party) → allowance q r + allowance q (other r) ≡ q.capacity
allowances q the_sender = omega arith
allowances q the_receiver = omega arith

-- ---- a party reads the other's index as memory has it

pub reads-other : (q : Queue) (o : OpeningValue) (es : List Entry) (c : QueueCounts) (p : Party) (m : ℕ) → Side q o es c p m → (h : ℕ) → h ≢ hart q p
    → read o es h (index q p) q.index_width ≡ index_word q m
reads-other q o es c p m side h apart = joined-same (λ i. read_byte o es h (index q p + i)) (λ i. memory_byte o es (index q p + i)) q.index_width
    (λ i lt. ap (λ f. unwrap_or f (memory_byte o es (index q p + i))) (passed_over (index q p + i) None (pending h es)
    (λ k d less. side.others h apart k d less (index q p + i) (omega arith, omega (arith, lt))))) ∙ side.word

-- the window, from both parties' indices
pub record Bounds (q : Queue) (c : QueueCounts) (p : Party) (m : ℕ) : Type 0 where
  pub known_there : known (other p) c ≤ m
  pub there : m ≤ count p c
  pub count_end : count p c ≤ known p c + allowance q p

pub bounds : (q : Queue) (o : OpeningValue) (es : List Entry) (c : QueueCounts) (p : Party) (m : ℕ) → Side q o es c p m → Bounds q c p m
bounds q o es c p m side = record {
  known_there = side.known_less;
  there = (let more : m ≤ moved_on q p m (pending (hart q p) es) = moved_on-more q p m (pending (hart q p) es) in omega (arith, more, side.count_is));
  count_end = (let at : end q p c ≡ known p c + allowance q p = end-is q p c in omega (arith, at, side.room));
}

module _ (q : Queue) (is : IsQueue q) (o : OpeningValue) (es : List Entry) (c : QueueCounts) (m : Party → ℕ)
    (sides : (p : Party) → Side q o es c p (m p)) (r : Party) where
  -- the count in memory of the other's index, of which the party knows no more
  pub known-low : known r c ≤ m (other r)
  known-low = subst (λ t. known t c ≤ m (other r)) (twice r) (sides (other r)).known_less

  -- and where the index tells all from none, no less
  pub found : q.capacity < q.modulus → least_count q (known r c) (index_word q (m (other r))) ≡ m (other r)
  found tells =
      let mine : Bounds q c r (m r) = bounds q o es c r (m r) (sides r) in
      let theirs : Bounds q c (other r) (m (other r)) = bounds q o es c (other r) (m (other r)) (sides (other r)) in
      let all : allowance q r + allowance q (other r) ≡ q.capacity = allowances q r in
      least-near q is (known r c) (m (other r)) known-low
      (omega (arith, known-low, all, mine.known_there, mine.there, mine.count_end, theirs.there, theirs.count_end, tells))

  module _ (a width v : ℕ) (is_read : v ≡ read o es (hart q r) a width) where
    abbrev c2 : QueueCounts
    c2 = after_load q r a width v c

    -- either nothing is known that wasn't, or more, and no more than what the index stands for in memory
    pub looked : (c2 ≡ c) ⊎ ((k : ℕ) × (c2 ≡ with_known r k c) × (known r c ≤ k) × (k ≤ m (other r)))
    looked = by (a == index q (other r) && width == q.index_width) refl
      where
        by : (b : Bool) → (a == index q (other r) && width == q.index_width) ≡ b
            → ((if b then with_known r (least_count q (known r c) v) c else c) ≡ c)
            ⊎ ((k : ℕ) × ((if b then with_known r (least_count q (known r c) v) c else c) ≡ with_known r k c) × (known r c ≤ k) × (k ≤ m (other r)))
        by false off = inl refl
        by true on = grind (arith, both-equal, reads-other, harts-apart, least-low)

    -- so what holds of both indices holds still
    knows-more : (k : ℕ) → known r c ≤ k → k ≤ m (other r) → (p : Party) → Side q o es (with_known r k c) p (m p)
    knows-more k from upto p = record {
      word = (sides p).word;
      count_is = (sides p).count_is ∙ sym (count-set-known r p k c);
      known_less = less (two r p);
      own = (sides p).own;
      others = (sides p).others;
      room = (let same : count p (with_known r k c) ≡ count p c = count-set-known r p k c in
          let more : end q p c ≤ end q p (with_known r k c) = further (two r p) in
          omega (arith, same, more, (sides p).room));
    }
      where
        less : (p ≡ r) ⊎ (p ≡ other r) → known (other p) (with_known r k c) ≤ m p
        less (inl same) = grind (arith, known-set-other)
        less (inr same) = grind (arith, twice, known-set)

        further : (p ≡ r) ⊎ (p ≡ other r) → end q p c ≤ end q p (with_known r k c)
        further (inl same) = grind (arith, end-is, known-set)
        further (inr same) = grind (arith, end-is, known-set-other)

    pub sides-looked : (p : Party) → Side q o es c2 p (m p)
    sides-looked p = elim looked [
      | inl same ↦ subst (λ d. Side q o es d p (m p)) (sym same) (sides p)
      | inr more ↦ subst (λ d. Side q o es d p (m p)) (sym more.1) (knows-more more.0 more.2 more.3 p)
    ]
