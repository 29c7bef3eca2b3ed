-- A byte of a slot, handed over: where a party moves its count past the slot's position, the other reads there what the party's hart read.
use Rattle.std.proofs.Common.{ℕ, ◌+◌, ◌<◌, ◌≤◌, ◌≡◌, ◌≢◌, ◌⊎◌, inl, inr, List, [], ◌∷◌, ◌++◌, length, Some, None, refl, sym, ◌∙◌, ap, subst, arith}
use Rattle.std.proofs.Common.{append-nil, append_assoc}
use Rattle.std.specs.Prelude.{slice_index_or}
use Rattle.memory.specs.Writes.{write}
use Rattle.step_machine.specs.declared.events.Entry.{Entry}
use Rattle.step_machine.specs.Names.{OpeningValue, Access, store, exchange, access_of, hart_of, pending, own_stores}
use Rattle.step_machine.specs.Names.{lands, read_byte}
use Rattle.store_buffers.specs.StoreBuffers.{LeavesByteBy, LeavesByteAt, AllLeaveByte, IsOnlyWriter}
use Rattle.store_buffers.proofs.MessagePassing.{handed_over}
use Rattle.queue_parties.specs.Parties.{Party, the_sender, the_receiver, other, QueueCounts, count, known, handed_on}
use Rattle.queue_parties.proofs.Parties.{Whose, mine, theirs, whose, party-is, counts-append, keeps-at}
use Rattle.queue_parties.proofs.Positions.{Owned, within}
use Rattle.queue_parties.proofs.Runs.{Run, leave-after}
use Rattle.queue_parties.proofs.Runs as runs
use Rattle.slot_queue.specs.{Queue, IsByteOf, party_of, hart, end, after_access, counts_next, counts_after, KeepsAccess, KeepsEntry, KeepsOwnership}
use Rattle.slot_queue.specs.{FollowsOwnership}
use Rattle.slot_queue.proofs.Runs.{window}
use Rattle.slot_queue.proofs.Runs.{shape, follows-front, counting}
use Rattle.slot_queue.proofs.Owned.{grows-entry, off-byte, access-byte, moves-count, MovesCount}

module _ (B : ℕ) (q : Queue) (start : QueueCounts) (o : OpeningValue) (before es : List Entry) (f : FollowsOwnership B q start o before es) where
  front : (done rest : List Entry) → es ≡ done ++ rest → FollowsOwnership B q start o before done
  front done rest is = follows-front B q start o before done rest (subst (FollowsOwnership B q start o before) is f)

  off-access : (k x : ℕ) → IsByteOf q k x → (c : QueueCounts) (y : Access) → KeepsAccess q None c y → LeavesByteBy x y
  off-access k x of_k c (store w) keeps = off-byte q f.queue x k of_k w keeps
  off-access k x of_k c (exchange a old new) (inl same) = inl same
  off-access k x of_k c (exchange a old new) (inr off) = inr (off-byte q f.queue x k of_k (write a 4 new) off)
  off-access k x of_k c other keeps = tt

  keeps-entry : (done : List Entry) (e : Entry) (rest : List Entry) → es ≡ done ++ e ∷ rest
      → KeepsAccess q (party_of q (hart_of e)) (counts_after q start done) (access_of e)
  keeps-entry done e rest is = keeps-at (counts_next q) (KeepsEntry q) start done e rest (subst (KeepsOwnership q start) is f.keeps)

  pub run-of : Run (shape q) (counts_next q) start B o before es
  run-of = record {
    some = f.queue.some;
    fits = f.queue.fits;
    legal = f.legal;
    grows = grows-entry q;
    window = λ done rest is. window B q start o before done (front done rest is);
    counting = λ done rest is p. counting B q start o before done (front done rest is) p;
    quiet = λ k x of_k h i d less. off-byte q f.queue x k of_k (slice_index_or (pending h before) i d) (f.rest.pending h i d less);
    third = third;
    own = own;
  }
    where
      third : (done : List Entry) (e : Entry) (rest : List Entry) → es ≡ done ++ e ∷ rest → ((p : Party) → hart_of e ≢ hart q p) → (k x : ℕ) → IsByteOf q k x
          → LeavesByteBy x (access_of e)
      third done e rest is far k x of_k = by (whose q.sender q.receiver (hart_of e))
        where
          by : Whose q.sender q.receiver (hart_of e) → LeavesByteBy x (access_of e)
          by (mine p at party) = absurd (far p at)
          by (theirs apart none) = off-access k x of_k (counts_after q start done) (access_of e)
              (subst (λ t. KeepsAccess q t (counts_after q start done) (access_of e)) none (keeps-entry done e rest is))

      own : (done : List Entry) (e : Entry) (rest : List Entry) → es ≡ done ++ e ∷ rest → (p : Party) → hart_of e ≡ hart q p → (k x : ℕ) → IsByteOf q k x
          → LeavesByteBy x (access_of e) ⊎ Owned (shape q) x p (counts_after q start done) (counts_after q start (done ++ e ∷ []))
      own done e rest is p here k x of_k =
          let party : party_of q (hart_of e) ≡ Some p = party-is q.sender q.receiver f.queue.parties p (hart_of e) here in
          let c : QueueCounts = counts_after q start done in
          subst (λ d. LeavesByteBy x (access_of e) ⊎ Owned (shape q) x p c d)
          (ap (λ t. after_access q t (access_of e) c) (sym party) ∙ sym (counts-append (counts_next q) start done (e ∷ [])))
          (access-byte q f.queue x k of_k p c (access_of e) (subst (λ t. KeepsAccess q t c (access_of e)) party (keeps-entry done e rest is)))

-- ---- publication

pub published : (B : ℕ) (q : Queue) (start : QueueCounts) (o : OpeningValue) (before es fs : List Entry)
    → FollowsOwnership B q start o before (es ++ fs) → (p : Party)
    → count p (counts_after q start es) < known (other p) (counts_after q start (es ++ fs))
    → length (own_stores (hart q p) (before ++ es)) ≤ lands (hart q p) (before ++ (es ++ fs))
published B q start o before es fs f p more =
    runs.published (shape q) (counts_next q) start B o before (es ++ fs) (run-of B q start o before (es ++ fs) f) p es fs refl more

pub published_with : (B : ℕ) (q : Queue) (start : QueueCounts) (o : OpeningValue) (before es : List Entry) (e : Entry) (fs : List Entry)
    → FollowsOwnership B q start o before ((es ++ e ∷ []) ++ fs) → (p : Party)
    → count p (counts_after q start es) < known (other p) (counts_after q start ((es ++ e ∷ []) ++ fs))
    → length (own_stores (hart q p) (before ++ (es ++ e ∷ []))) ≤ lands (hart q p) (before ++ ((es ++ e ∷ []) ++ fs))
published_with B q start o before es e fs f p more = runs.published_with (shape q) (counts_next q) start B o before ((es ++ e ∷ []) ++ fs)
    (run-of B q start o before ((es ++ e ∷ []) ++ fs) f) p es e fs (append_assoc es (e ∷ []) fs) more

-- ---- a run in which a party hands a position over

module _ (B : ℕ) (q : Queue) (start : QueueCounts) (o : OpeningValue) (before es : List Entry) (e : Entry) (fs : List Entry)
    (f : FollowsOwnership B q start o before (es ++ e ∷ fs)) (p : Party) (k : ℕ) (from : count p (counts_after q start es) ≤ k)
    (past : k < count p (counts_after q start (es ++ e ∷ []))) where
  abbrev c : QueueCounts
  c = counts_after q start es

  abbrev run : Run (shape q) (counts_next q) start B o before (es ++ e ∷ fs)
  run = run-of B q start o before (es ++ e ∷ fs) f

  past_entry : count p c < count p (counts_next q c e)
  past_entry = grind (arith, counts-append)

  moves : MovesCount q f.queue p (party_of q (hart_of e)) c (access_of e)
  moves = moves-count q f.queue p (party_of q (hart_of e)) c (access_of e) past_entry

  -- the position was the party's
  pub owned : k < end q p c
  owned =
      let room : count p (counts_after q start (es ++ e ∷ [])) ≤ end q p (counts_after q start (es ++ e ∷ [])) =
      within (shape q) (counts_after q start (es ++ e ∷ [])) (run.window (es ++ e ∷ []) fs (sym (append_assoc es (e ∷ []) fs))) p in
      let same : end q p (counts_after q start (es ++ e ∷ [])) ≡ end q p c = ap (end q p) (counts-append (counts_next q) start es (e ∷ [])) ∙ moves.same_end in
      omega (arith, past, room, same)

  module _ (x : ℕ) (of_k : IsByteOf q k x) (given : count (other p) (counts_after q start (es ++ e ∷ fs)) ≤ k + handed_on q.size p)
      (has : k + handed_on q.size p < end q (other p) (counts_after q start (es ++ e ∷ fs))) (left : LeavesByteAt (hart q (other p)) x fs) where
    knows : (p : Party) → count p c ≤ k → k + handed_on q.size p < end q (other p) (counts_after q start (es ++ e ∷ fs))
        → count p c < known (other p) (counts_after q start (es ++ e ∷ fs))
    knows the_sender from has = omega (arith, from, has)
    knows the_receiver from has = omega (arith, from, has, f.queue.fits)

    pub handed : (h : ℕ) → read_byte o (before ++ (es ++ e ∷ fs)) h x ≡ read_byte o (before ++ es) (hart q p) x
    handed h = runs.handed (shape q) (counts_next q) start B o before (es ++ e ∷ fs) run es (e ∷ fs) refl es [] (sym (append-nil es)) p k from owned
        (λ g apart. refl) x of_k (published B q start o before es (e ∷ fs) f p (knows p from has)) (
          moves.leaves x k of_k (keeps-entry B q start o before (es ++ e ∷ fs) f es e fs refl),
          leave-after (shape q) (counts_next q) start B o before (es ++ e ∷ fs) run (es ++ e ∷ []) fs (sym (append_assoc es (e ∷ []) fs)) p k past x of_k
              given left,
        ) h

pub waited : (B : ℕ) (q : Queue) (start : QueueCounts) (o : OpeningValue) (before es : List Entry) → FollowsOwnership B q start o before es → (k x : ℕ)
    → IsByteOf q k x → k < start.published → (counts_after q start es).taken ≤ k → LeavesByteAt q.receiver x es → (g h : ℕ)
    → read_byte o (before ++ es) h x ≡ read_byte o before g x
waited B q start o before es f = runs.waited (shape q) (counts_next q) start B o before es (run-of B q start o before es f)

-- ---- any byte, of the queue or not

pub passed_on : (B : ℕ) (q : Queue) (start : QueueCounts) (o : OpeningValue) (before es fs : List Entry)
    → FollowsOwnership B q start o before (es ++ fs) → (p : Party)
    → count p (counts_after q start es) < known (other p) (counts_after q start (es ++ fs)) → (h x : ℕ)
    → IsOnlyWriter (hart q p) x (before ++ es) → AllLeaveByte x fs
    → read_byte o (before ++ (es ++ fs)) h x ≡ read_byte o (before ++ es) (hart q p) x
passed_on B q start o before es fs f p knows h x alone leave = grind (arith, append_assoc, handed_over, published, knows)
