-- A byte of a slot, handed over: where a party stores the slot's tag, the other reads there what the party's hart read then.
use Rattle.std.proofs.Common.{ℕ, ◌+◌, ◌<◌, ◌≤◌, ◌≡◌, ◌≢◌, ◌⊎◌, inr, List, [], ◌∷◌, ◌++◌, length, Some, None, refl, sym, ◌∙◌, ap}
use Rattle.std.proofs.Common.{subst, arith, append-nil, append_assoc}
use Rattle.std.specs.Prelude.{slice_index_or}
use Rattle.std.proofs.lemmas.Bool.{ne_eqb}
use Rattle.memory.specs.Writes.{write}
use Rattle.step_machine.specs.declared.events.Entry.{Entry}
use Rattle.step_machine.specs.Names.{OpeningValue, Access, store, exchange, access_of, hart_of, stored_by, own_store}
use Rattle.step_machine.specs.Names.{pending, own_stores, landed_by, lands, read_byte}
use Rattle.step_machine.proofs.{stores-append, lands-append}
use Rattle.store_buffers.specs.StoreBuffers.{LeavesByteBy, LeavesByteAt}
use Rattle.store_buffers.proofs.Effects.{stored_none, landed_none}
use Rattle.queue_parties.specs.Parties.{Party, other, QueueCounts, count, known}
use Rattle.queue_parties.proofs.Parties.{Whose, mine, theirs, whose, twice, party-is, counts-append, keeps-at}
use Rattle.queue_parties.proofs.Positions.{Owned, within}
use Rattle.queue_parties.proofs.Runs.{Run, leave-after}
use Rattle.queue_parties.proofs.Runs as runs
use Rattle.slots_that_tell.specs.Slots.{Slots, gap, IsSlotByte}
use Rattle.slots_that_tell.specs.Telling.{KeepsEntry, teller_of, teller_hart, owned_end, told_access, after_entry, told_counts, TellsAccess, KeepsTelling}
use Rattle.slots_that_tell.specs.Laws.{FollowsTelling}
use Rattle.slots_that_tell.proofs.Runs.{window}
use Rattle.slots_that_tell.proofs.Runs.{shape, follows-front, counting}
use Rattle.slots_that_tell.proofs.Owned.{grows-entry, off-byte, access-byte, moving, mine-of}

module _ (B : ℕ) (q : Slots) (start : QueueCounts) (o : OpeningValue) (before es : List Entry) (f : FollowsTelling B q start o before es) where
  front : (done rest : List Entry) → es ≡ done ++ rest → FollowsTelling B q start o before done
  front done rest is = follows-front B q start o before done rest (subst (FollowsTelling B q start o before) is f)

  off-access : (k x : ℕ) → IsSlotByte q k x → (c : QueueCounts) (y : Access) → TellsAccess q None c y → LeavesByteBy x y
  off-access k x of_k c (store w) keeps = off-byte q f.slots x k of_k w keeps
  off-access k x of_k c (exchange a old new) keeps = inr (off-byte q f.slots x k of_k (write a 4 new) keeps)
  off-access k x of_k c other keeps = tt

  pub keeps-entry : (done : List Entry) (e : Entry) (rest : List Entry) → es ≡ done ++ e ∷ rest
      → TellsAccess q (teller_of q (hart_of e)) (told_counts q start done) (access_of e)
  keeps-entry done e rest is = keeps-at (after_entry q) (KeepsEntry q) start done e rest (subst (KeepsTelling q start) is f.keeps)

  pub run-of : Run (shape q) (after_entry q) start B o before es
  run-of = record {
    some = f.slots.some;
    fits = omega arith;
    legal = f.legal;
    grows = grows-entry q;
    window = λ done rest is. window B q start o before done (front done rest is);
    counting = λ done rest is p. counting B q start o before done (front done rest is) p;
    quiet = λ k x of_k h i d less. off-byte q f.slots x k of_k (slice_index_or (pending h before) i d) (f.rest.pending h i d less);
    third = third;
    own = own;
  }
    where
      third : (done : List Entry) (e : Entry) (rest : List Entry) → es ≡ done ++ e ∷ rest → ((p : Party) → hart_of e ≢ teller_hart q p) → (k x : ℕ)
          → IsSlotByte q k x → LeavesByteBy x (access_of e)
      third done e rest is far k x of_k = by (whose q.sender q.receiver (hart_of e))
        where
          by : Whose q.sender q.receiver (hart_of e) → LeavesByteBy x (access_of e)
          by (mine p at party) = absurd (far p at)
          by (theirs apart none) = off-access k x of_k (told_counts q start done) (access_of e)
              (subst (λ t. TellsAccess q t (told_counts q start done) (access_of e)) none (keeps-entry done e rest is))

      own : (done : List Entry) (e : Entry) (rest : List Entry) → es ≡ done ++ e ∷ rest → (p : Party) → hart_of e ≡ teller_hart q p → (k x : ℕ)
          → IsSlotByte q k x → LeavesByteBy x (access_of e) ⊎ Owned (shape q) x p (told_counts q start done) (told_counts q start (done ++ e ∷ []))
      own done e rest is p here k x of_k =
          let party : teller_of q (hart_of e) ≡ Some p = party-is q.sender q.receiver f.slots.parties p (hart_of e) here in
          let c : QueueCounts = told_counts q start done in
          subst (λ d. LeavesByteBy x (access_of e) ⊎ Owned (shape q) x p c d)
          (ap (λ t. told_access q t (access_of e) c) (sym party) ∙ sym (counts-append (after_entry q) start done (e ∷ [])))
          (access-byte q f.slots x k of_k p c (access_of e) (subst (λ t. TellsAccess q t c (access_of e)) party (keeps-entry done e rest is)))

-- ---- publication

pub published : (B : ℕ) (q : Slots) (start : QueueCounts) (o : OpeningValue) (before es fs : List Entry) → FollowsTelling B q start o before (es ++ fs)
    → (p : Party) → count p (told_counts q start es) < known (other p) (told_counts q start (es ++ fs))
    → length (own_stores (teller_hart q p) (before ++ es)) ≤ lands (teller_hart q p) (before ++ (es ++ fs))
published B q start o before es fs f p more =
    runs.published (shape q) (after_entry q) start B o before (es ++ fs) (run-of B q start o before (es ++ fs) f) p es fs refl more

-- of an entry that moves a count, with what it stores
pub published_by : (B : ℕ) (q : Slots) (start : QueueCounts) (o : OpeningValue) (before es : List Entry) (e : Entry) (fs : List Entry)
    → FollowsTelling B q start o before ((es ++ e ∷ []) ++ fs) → (p : Party) → count p (told_counts q start es) < count p (told_counts q start (es ++ e ∷ []))
    → count p (told_counts q start (es ++ e ∷ [])) ≤ known (other p) (told_counts q start ((es ++ e ∷ []) ++ fs))
    → length (own_stores (teller_hart q p) (before ++ (es ++ e ∷ []))) ≤ lands (teller_hart q p) (before ++ ((es ++ e ∷ []) ++ fs))
published_by B q start o before es e fs f p more knows = runs.published_with (shape q) (after_entry q) start B o before ((es ++ e ∷ []) ++ fs)
    (run-of B q start o before ((es ++ e ∷ []) ++ fs) f) p es e fs (append_assoc es (e ∷ []) fs) (omega (arith, more, knows))

-- ---- a run in which a party hands a position over

module _ (B : ℕ) (q : Slots) (start : QueueCounts) (o : OpeningValue) (before es : List Entry) (e : Entry) (fs : List Entry)
    (f : FollowsTelling B q start o before (es ++ e ∷ fs)) (p : Party) (k : ℕ) (from : count p (told_counts q start es) ≤ k)
    (past : k < count p (told_counts q start (es ++ e ∷ []))) where
  abbrev h : ℕ
  h = teller_hart q p

  abbrev run : Run (shape q) (after_entry q) start B o before (es ++ e ∷ fs)
  run = run-of B q start o before (es ++ e ∷ fs) f

  parts : es ++ e ∷ fs ≡ (es ++ e ∷ []) ++ fs
  parts = sym (append_assoc es (e ∷ []) fs)

  e_mine : hart_of e ≡ h
  e_mine = mine-of q f.slots p (hart_of e) (moving q p (teller_of q (hart_of e)) (access_of e) (told_counts q start es)
      (subst (λ d. count p (told_counts q start es) < count p d) (counts-append (after_entry q) start es (e ∷ [])) (omega (arith, from, past)))).0

  alone : (g : ℕ) → g ≢ h → own_stores g (before ++ (es ++ e ∷ [])) ≡ own_stores g (before ++ es)
  alone g apart = ap (own_stores g) (sym (append_assoc before es (e ∷ []))) ∙ stores-append g (before ++ es) (e ∷ [])
      ∙ ap (λ ws. own_stores g (before ++ es) ++ ws) (append-nil (own_store g e)
      ∙ ap (λ b. stored_by b (access_of e)) (ne_eqb (hart_of e) g (λ s. apart (sym s ∙ e_mine))) ∙ stored_none (access_of e))
      ∙ append-nil (own_stores g (before ++ es))

  module _ (x : ℕ) (of_k : IsSlotByte q k x) (given : count (other p) (told_counts q start (es ++ e ∷ fs)) ≤ k + gap q p) where
    -- where all that the party's hart had stored there has landed
    pub reads-landed : LeavesByteAt (teller_hart q (other p)) x fs
        → length (own_stores h (before ++ (es ++ e ∷ []))) ≤ lands h (before ++ (es ++ e ∷ fs))
        → read_byte o (before ++ (es ++ e ∷ fs)) (teller_hart q (other p)) x ≡ read_byte o (before ++ (es ++ e ∷ [])) h x
    reads-landed kept landed = runs.handed (shape q) (after_entry q) start B o before (es ++ e ∷ fs) run (es ++ e ∷ []) fs parts es (e ∷ []) refl p k from
        (omega (arith, past, within (shape q) (told_counts q start (es ++ e ∷ [])) (run.window (es ++ e ∷ []) fs parts) p)) alone x of_k landed
        (leave-after (shape q) (after_entry q) start B o before (es ++ e ∷ fs) run (es ++ e ∷ []) fs parts p k past x of_k given kept)
        (teller_hart q (other p))

    -- as once the other party knows of the position
    pub handed : k + gap q p < owned_end q (other p) (told_counts q start (es ++ e ∷ fs)) → LeavesByteAt (teller_hart q (other p)) x fs
        → read_byte o (before ++ (es ++ e ∷ fs)) (teller_hart q (other p)) x ≡ read_byte o (before ++ (es ++ e ∷ [])) h x
    handed has kept =
        let there : k + gap q p < known (other p) (told_counts q start (es ++ e ∷ fs)) + gap q p =
        subst (λ t. k + gap q p < known (other p) (told_counts q start (es ++ e ∷ fs)) + gap q t) (twice p) has in
        reads-landed kept (runs.published_with (shape q) (after_entry q) start B o before (es ++ e ∷ fs) run p es e fs refl (omega (arith, there, from)))

-- the same just before the entry of the other party's by which it comes to know of the position
pub handed-before : (B : ℕ) (q : Slots) (start : QueueCounts) (o : OpeningValue) (before es : List Entry) (e : Entry) (fs : List Entry) (d : Entry)
    → FollowsTelling B q start o before ((es ++ e ∷ fs) ++ d ∷ []) → (p : Party) (k : ℕ) → count p (told_counts q start es) ≤ k
    → k < count p (told_counts q start (es ++ e ∷ [])) → hart_of d ≢ teller_hart q p → k < known (other p) (told_counts q start ((es ++ e ∷ fs) ++ d ∷ []))
    → (x : ℕ) → IsSlotByte q k x → count (other p) (told_counts q start (es ++ e ∷ fs)) ≤ k + gap q p → LeavesByteAt (teller_hart q (other p)) x fs
    → read_byte o (before ++ (es ++ e ∷ fs)) (teller_hart q (other p)) x ≡ read_byte o (before ++ (es ++ e ∷ [])) (teller_hart q p) x
handed-before B q start o before es e fs d f p k from past apart knows x of_k given kept =
    reads-landed B q start o before es e fs (follows-front B q start o before (es ++ e ∷ fs) (d ∷ []) f) p k from past x of_k given kept (omega (
      arith,
      runs.published_with (shape q) (after_entry q) start B o before ((es ++ e ∷ fs) ++ d ∷ []) (run-of B q start o before ((es ++ e ∷ fs) ++ d ∷ []) f) p es e
          (fs ++ d ∷ []) (append_assoc es (e ∷ fs) (d ∷ [])) (omega (arith, from, knows)),
      ap (lands (teller_hart q p)) (sym (append_assoc before (es ++ e ∷ fs) (d ∷ []))),
      lands-append (teller_hart q p) (before ++ (es ++ e ∷ fs)) (d ∷ []),
      ap (λ b. landed_by b (access_of d)) (ne_eqb (hart_of d) (teller_hart q p) apart) ∙ landed_none (access_of d),
    ))

pub waited : (B : ℕ) (q : Slots) (start : QueueCounts) (o : OpeningValue) (before es : List Entry) → FollowsTelling B q start o before es → (k x : ℕ)
    → IsSlotByte q k x → k < start.published → (told_counts q start es).taken ≤ k → LeavesByteAt q.receiver x es → (g h : ℕ)
    → read_byte o (before ++ es) h x ≡ read_byte o before g x
waited B q start o before es f = runs.waited (shape q) (after_entry q) start B o before es (run-of B q start o before es f)
