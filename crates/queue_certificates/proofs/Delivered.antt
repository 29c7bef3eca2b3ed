-- Each byte of a slot that the receiver owns was delivered.
use Rattle.std.proofs.Common.{ℕ, ◌<◌, ◌≤◌, ◌≡◌, List, [], ◌∷◌, ◌++◌, sym, subst, arith}
use Rattle.step_machine.specs.declared.events.Entry.{Entry}
use Rattle.step_machine.specs.Names.{OpeningValue, read_byte}
use Rattle.slot_queue.specs.{Queue, IsByteOf, counts_next, counts_after, OwnsByte, FollowsOwnership}
use Rattle.queue_parties.specs.Parties.{the_sender, the_receiver, all_at, count, IsWindow}
use Rattle.store_buffers.specs.StoreBuffers.{LeavesByteAt}
use Rattle.slot_queue.proofs.{window, grows-after, grows-entry, handed}
use Rattle.queue_parties.proofs.Parties.{Passed}
use Rattle.queue_parties.proofs.Records.{passed}
use Rattle.queue_certificates.specs.Delivered.{IsDelivered}

pub delivered : (B : ℕ) (q : Queue) (n : ℕ) (o : OpeningValue) (es : List Entry) → FollowsOwnership B q (all_at n) o [] es → (x : ℕ)
    → OwnsByte q the_receiver (counts_after q (all_at n) es) x → IsDelivered q n o es x
delivered B q n o es f x owns = record {
  position = k;
  byte = owns.byte;
  owned = owns.from;
  known = owns.before;
  before = at.done;
  publishes = at.entry;
  since = at.rest;
  is = at.is;
  from = at.from;
  past = at.past;
  reads = λ leaves. subst (λ xs. read_byte o xs q.receiver x ≡ read_byte o at.done q.sender x) (sym at.is)
      (handed B q (all_at n) o [] at.done at.entry at.rest (subst (FollowsOwnership B q (all_at n) o []) at.is f) the_sender k at.from at.past x owns.byte
      (let from : (counts_after q (all_at n) (at.done ++ at.entry ∷ at.rest)).taken ≤ k =
      subst (λ xs. (counts_after q (all_at n) xs).taken ≤ k) at.is owns.from in
      omega (arith, from))
      (let below : k < (counts_after q (all_at n) (at.done ++ at.entry ∷ at.rest)).known_published =
      subst (λ xs. k < (counts_after q (all_at n) xs).known_published) at.is owns.before in
      omega (arith, below)) leaves q.receiver);
}
  where
    k : ℕ
    k = owns.position

    at : Passed (counts_next q) (count the_sender) (all_at n) es k
    at = passed (counts_next q) (count the_sender) (λ front e j. 0) (λ c e. (grows-entry q c e).counts the_sender) (all_at n) es k
        (let more : n ≤ (counts_after q (all_at n) es).taken = (grows-after q (all_at n) es).counts the_receiver in omega (arith, more, owns.from))
        (let w : IsWindow q.capacity (counts_after q (all_at n) es) = window B q (all_at n) o [] es f in omega (arith, w.known_published, owns.before))

leaves-back : (h x : ℕ) (before : List Entry) (e : Entry) (since : List Entry) → LeavesByteAt h x (before ++ e ∷ since) → LeavesByteAt h x since
leaves-back h x [] e since l = l.1
leaves-back h x (d ∷ before) e since l = leaves-back h x before e since l.1

-- of a known place where the count moved past it
pub handed-at : (B : ℕ) (q : Queue) (n : ℕ) (o : OpeningValue) (es : List Entry) → FollowsOwnership B q (all_at n) o [] es → (k x : ℕ) → IsByteOf q k x
    → (counts_after q (all_at n) es).taken ≤ k → k < (counts_after q (all_at n) es).known_published → (before : List Entry) (e : Entry) (since : List Entry)
    → es ≡ before ++ e ∷ since → (counts_after q (all_at n) before).published ≤ k
    → k < (counts_after q (all_at n) (before ++ e ∷ [])).published → LeavesByteAt q.receiver x es
    → read_byte o es q.receiver x ≡ read_byte o before q.sender x
handed-at B q n o es f k x of_k taken has before e since is from past leaves =
    subst (λ xs. read_byte o xs q.receiver x ≡ read_byte o before q.sender x) (sym is)
    (handed B q (all_at n) o [] before e since (subst (FollowsOwnership B q (all_at n) o []) is f) the_sender k from past x of_k
    (let from2 : (counts_after q (all_at n) (before ++ e ∷ since)).taken ≤ k =
    subst (λ xs. (counts_after q (all_at n) xs).taken ≤ k) is taken in
    omega (arith, from2))
    (let below : k < (counts_after q (all_at n) (before ++ e ∷ since)).known_published =
    subst (λ xs. k < (counts_after q (all_at n) xs).known_published) is has in
    omega (arith, below))
    (leaves-back q.receiver x before e since (subst (LeavesByteAt q.receiver x) is leaves)) q.receiver)
