-- Records in order, each once: what the receiver takes, and what it learns of, is a beginning of what waited and what the sender published.
use Rattle.std.proofs.Common.{ℕ, ◌+◌, ◌<◌, ◌≤◌, ◌≡◌, inl, inr, List, [], ◌∷◌, ◌++◌, sym, ◌∙◌, ap, subst, arith, append-nil, append_assoc}
use Rattle.step_machine.specs.declared.events.Entry.{Entry}
use Rattle.step_machine.specs.Names.{OpeningValue, access_of, hart_of, read_byte}
use Rattle.store_buffers.specs.StoreBuffers.{LeavesByteAt, LeavesByteBy}
use Rattle.store_buffers.proofs.LateStores.{leaves-part, at-end}
use Rattle.queue_parties.specs.{the_sender, the_receiver, QueueCounts, IsWindow, count, known, IsPrefix}
use Rattle.queue_parties.proofs.Parties.{Passed, counts-append, keeps-at}
use Rattle.queue_parties.proofs.Records.{HasRecords}
use Rattle.queue_parties.proofs.Runs.{Run, front, unlearned}
use Rattle.queue_parties.proofs.Records as order
use Rattle.slot_queue.specs.{Queue, IsByteOf, party_of, counts_next, counts_after, KeepsEntry}
use Rattle.slot_queue.specs.{FollowsOwnership, LeavesSlotsAt, slot_record, records_by, records_learned, records_waiting}
use Rattle.slot_queue.proofs.Runs.{shape, follows-front}
use Rattle.slot_queue.proofs.Owned.{grows-entry, learns-more, LearnsMore}
use Rattle.slot_queue.proofs.HandingOver.{run-of, handed, owned}

module _ (B : ℕ) (q : Queue) (start : QueueCounts) (o : OpeningValue) (before es : List Entry) (f : FollowsOwnership B q start o before es) where
  run : Run (shape q) (counts_next q) start B o before es
  run = run-of B q start o before es f

  -- the sender's hart reads a record just before it publishes it
  abbrev point : List Entry → Entry → List Entry
  point xs e = xs

  abbrev R : ℕ → ℕ
  R = order.R (shape q) (counts_next q) start B o before es run q.sender point

  abbrev Source : (es1 : List Entry) (k : ℕ) → Type 0
  Source = order.Source (shape q) (counts_next q) start B o before es run q.sender point

  -- where the receiver owns the position, it reads its record
  reads : (es1 es2 : List Entry) → es ≡ es1 ++ es2 → (k : ℕ) → (counts_after q start es1).taken ≤ k → k < (counts_after q start es1).known_published
      → Source es1 k → slot_record q o (before ++ es1) q.receiver k ≡ R k
  reads es1 es2 split k given knows source =
      order.reads (shape q) (counts_next q) start B o before es run q.sender point es1 es2 split k given source (λ d x of_k left.
      ap (λ xs. read_byte o (before ++ xs) q.receiver x) d.is ∙ handed B q start o before d.done d.entry d.rest
      (subst (FollowsOwnership B q start o before) d.is (follows-front B q start o before es1 es2 (subst (FollowsOwnership B q start o before) split f)))
      the_sender k d.from d.past x of_k
      (let give : (counts_after q start es1).taken ≤ k + 0 = omega (arith, given) in subst (λ xs. (counts_after q start xs).taken ≤ k + 0) d.is give)
      (let have : k + 0 < (counts_after q start es1).known_published = omega (arith, knows) in
      subst (λ xs. k + 0 < (counts_after q start xs).known_published) d.is have) left q.receiver)

  taken-grows : (c : QueueCounts) (e : Entry) → c.taken ≤ (counts_next q c e).taken
  taken-grows c e = (grows-entry q c e).counts the_receiver

  taken : LeavesSlotsAt q q.receiver es
      → HasRecords (counts_next q) (count the_receiver) (λ xs e k. slot_record q o xs q.receiver k) taken-grows R start
      before es
  taken left es1 e es2 k split from past = reads es1 (e ∷ es2) split k from knows
      (order.source (shape q) (counts_next q) start B o before es run q.sender point es1 (e ∷ es2) split k
      (omega (arith, (run.window es1 (e ∷ es2) split).known_published, knows)) (λ fr gs cut below x of_k. leaves-part q.receiver x fr gs (e ∷ es2)
      (subst (LeavesByteAt q.receiver x) (split ∙ ap (λ xs. xs ++ e ∷ es2) cut ∙ append_assoc fr gs (e ∷ es2)) (left k x of_k))))
    where
      knows : k < (counts_after q start es1).known_published
      knows = owned B q start o before es1 e es2 (subst (FollowsOwnership B q start o before) split f) the_receiver k from past

  pub in_order : LeavesSlotsAt q q.receiver es → IsPrefix (records_by q the_receiver o start before es)
      (records_waiting q o start before start.taken ++ records_by q the_sender o start before es)
  in_order left =
      let w : IsWindow q.capacity (counts_after q start es) = run.window es [] (sym (append-nil es)) in
      order.in-order (shape q) (counts_next q) start B o before es run q.sender point (count the_receiver) (λ xs e k. slot_record q o xs q.receiver k)
      taken-grows (taken left) (omega (arith, f.rest.window.taken, f.rest.window.known_published)) (omega (arith, w.taken, w.known_published))

  -- ---- as the receiver learns of them

  knows-grows : (c : QueueCounts) (e : Entry) → c.known_published ≤ (counts_next q c e).known_published
  knows-grows c e = (grows-entry q c e).knows the_receiver

  learned : HasRecords (counts_next q) (known the_receiver) (λ xs e k. slot_record q o (xs ++ e ∷ []) q.receiver k) knows-grows R start before es
  learned es1 e es2 k split from past =
      ap (λ xs. slot_record q o xs q.receiver k) (append_assoc before es1 (e ∷ [])) ∙ reads (es1 ++ e ∷ []) es2 split2 k given past
      (further (order.source (shape q) (counts_next q) start B o before es run q.sender point es1 (e ∷ es2) split k published_before
      (λ fr gs cut below x of_k. unlearned (shape q) (counts_next q) start B o before es1 run1 fr gs cut k x of_k below from)))
    where
      c : QueueCounts
      c = counts_after q start es1

      split2 : es ≡ (es1 ++ e ∷ []) ++ es2
      split2 = split ∙ sym (append_assoc es1 (e ∷ []) es2)

      run1 : Run (shape q) (counts_next q) start B o before es1
      run1 = front (shape q) (counts_next q) start B o before es es1 (e ∷ es2) split run

      one_more : counts_after q start (es1 ++ e ∷ []) ≡ counts_next q c e
      one_more = counts-append (counts_next q) start es1 (e ∷ [])

      learns : LearnsMore q f.queue the_receiver (party_of q (hart_of e)) c (access_of e)
      learns = learns-more q f.queue the_receiver (party_of q (hart_of e)) c (access_of e)
          (let more : k < (counts_next q c e).known_published = subst (λ d. k < d.known_published) one_more past in omega (arith, from, more))

      given : (counts_after q start (es1 ++ e ∷ [])).taken ≤ k
      given = let same : (counts_after q start (es1 ++ e ∷ [])).taken ≡ c.taken = ap (count the_receiver) one_more ∙ learns.same_counts the_receiver in
          omega (arith, same, (run.window es1 (e ∷ es2) split).taken, from)

      published_before : k < c.published
      published_before =
          let same : (counts_after q start (es1 ++ e ∷ [])).published ≡ c.published =
          ap (count the_sender) one_more ∙ learns.same_counts the_sender in
          omega (arith, past, (run.window (es1 ++ e ∷ []) es2 split2).known_published, same)

      leaves : (x : ℕ) → IsByteOf q k x → LeavesByteBy x (access_of e)
      leaves x of_k = learns.leaves x k of_k (keeps-at (counts_next q) (KeepsEntry q) start es1 e es2
          (subst (FollowsOwnership B q start o before) split f).keeps)

      further : Source es1 k → Source (es1 ++ e ∷ []) k
      further (inl had) = inl (had.0, λ x of_k. at-end q.receiver x es1 e (had.1 x of_k) (λ own. leaves x of_k))
      further (inr one) =
          let d : Passed (counts_next q) (count the_sender) start es1 k = one.1.by in
          inr (
            one.0,
            record {
              by = record {
                done = d.done;
                entry = d.entry;
                rest = d.rest ++ e ∷ [];
                is = ap (λ xs. xs ++ e ∷ []) d.is ∙ append_assoc d.done (d.entry ∷ d.rest) (e ∷ []);
                from = d.from;
                past = d.past;
              };
              since = λ x of_k. at-end q.receiver x d.rest e (one.1.since x of_k) (λ own. leaves x of_k);
            },
          )

  pub in_order_as_learned : IsPrefix (records_learned q o start before es)
      (records_waiting q o start before start.known_published ++ records_by q the_sender o start before es)
  in_order_as_learned = order.in-order (shape q) (counts_next q) start B o before es run q.sender point (known the_receiver)
      (λ xs e k. slot_record q o (xs ++ e ∷ []) q.receiver k) knows-grows learned f.rest.window.known_published
      (run.window es [] (sym (append-nil es))).known_published
