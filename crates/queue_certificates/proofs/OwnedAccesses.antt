-- What single accesses of a party come to: one lemma for each kind that a program of a queue makes. This is the queue's side of a
-- checker's transfer; the hart's side is what its instruction wants and leaves.
use Rattle.std.proofs.Common.{ℕ, ◌+◌, ◌<◌, ◌≤◌, ◌≡◌, ◌≢◌, ◌==◌, ◌&&◌, inl, inr, if◌then◌else◌, ◌∙◌, ap, arith}
use Rattle.std.proofs.lemmas.Bool.{eq-eqb, ne_eqb}
use Rattle.memory.specs.declared.writes.Write.{Write}
use Rattle.memory.proofs.Bytes.{covers-from}
use Rattle.step_machine.specs.Access.{load}
use Rattle.slot_queue.specs.{Queue, IsQueue, TellsFull, index_word, least_count, slot_of, KeepsOff, index, end, after_load, moved, MovesOn, FillsOwned}
use Rattle.queue_parties.specs.Parties.{Party, the_sender, the_receiver, other, QueueCounts, count, known, with_known}
use Rattle.slot_queue.proofs.{least-near, indices-apart, fills-leaves, moved-leaves, moved-index}
use Rattle.queue_certificates.specs.OwnedRuns.{View, ReadsFrom, limit, SeesIndices, OwnsSlotsOf}

module _ (q : Queue) (is : IsQueue q) (p : Party) (c : QueueCounts) where
  -- a load of anything but the other's index leaves what is known
  pub elsewhere : (a width v : ℕ) → a ≢ index q (other p) → after_load q p a width v c ≡ c
  elsewhere a width v apart =
      ap (λ b. if b && (width == q.index_width) then with_known p (least_count q (known p c) v) c else c)
      (ne_eqb a (index q (other p)) apart)

  -- of the own index: the word of the own count
  pub own_read : (m : View) → SeesIndices q p c m → (v : ℕ) → ReadsFrom m (load (index q p) q.index_width v)
      → (v ≡ index_word q (count p c)) × (after_load q p (index q p) q.index_width v c ≡ c)
  own_read m sees v reads = (reads ∙ sees.own, elsewhere (index q p) q.index_width v (indices-apart q is p))

  -- no count of the other's that may be read is a round ahead
  pub near : (k : ℕ) → TellsFull q → count p c ≤ end q p c → k ≤ limit q p c → k < known p c + q.modulus
  near k tells room upto = by p room upto
    where
      by : (r : Party) → count r c ≤ end q r c → k ≤ limit q r c → k < known r c + q.modulus
      by the_sender room upto = omega (arith, tells, room, upto)
      by the_receiver room upto = omega (arith, tells, room, upto)

  -- a look: a load of the other's index, which tells what is known from then on
  pub looked : (m : View) → TellsFull q → SeesIndices q p c m → (v : ℕ) → ReadsFrom m (load (index q (other p)) q.index_width v)
      → (k : ℕ) × (v ≡ index_word q k) × (known p c ≤ k) × (k ≤ limit q p c) × (after_load q p (index q (other p)) q.index_width v c ≡ with_known p k c)
  looked m tells sees v reads = grind (arith, eq-eqb, least-near, near)

  -- a store to the own index of the word of the own count and d more, where d are owned
  pub moves : (w : Write) (d : ℕ) → w.addr ≡ index q p → w.width ≡ q.index_width → w.value ≡ index_word q (count p c + d) → d < q.modulus
      → count p c + d ≤ end q p c → MovesOn q p c w × (moved q p (count p c) w ≡ count p c + d)
  moves w d place width word near_by owned = grind (arith, least-near, moved-index)

  -- a store, or a load, of bytes of the slot of an owned position
  pub fills : (w : Write) (k : ℕ) → count p c ≤ k → k < end q p c → slot_of q k ≤ w.addr → w.addr + w.width ≤ slot_of q k + q.width
      → FillsOwned q p c w × (moved q p (count p c) w ≡ count p c)
  fills w k from before low high = (owned, moved-leaves q is p (count p c) w (fills-leaves q is p p c w owned))
    where
      owned : FillsOwned q p c w
      owned x on =
          let within = covers-from w x on in
          inr (record { position = k; from = from; before = before; byte = (omega (arith, low, within.0), omega (arith, high, within.1)) })

  pub loads_owned : (a width k : ℕ) → count p c ≤ k → k < end q p c → slot_of q k ≤ a → a + width ≤ slot_of q k + q.width → OwnsSlotsOf q p c a width
  loads_owned a width k from before low high x within slots =
      record { position = k; from = from; before = before; byte = (omega (arith, low, within.0), omega (arith, high, within.1)) }

  -- a store beside the queue
  pub off : (w : Write) → KeepsOff q w → FillsOwned q p c w × (moved q p (count p c) w ≡ count p c)
  off w keeps = ((λ x on. inl (keeps x on)), moved-leaves q is p (count p c) w (fills-leaves q is p p c w (λ x on. inl (keeps x on))))
