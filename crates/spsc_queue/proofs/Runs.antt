-- Whole runs that keep the protocol: what is received is a prefix of what was sent.
use Rattle.std.proofs.Math.Seq.{take-append_seam}
use Rattle.spsc_queue.proofs.Common.{ℕ, ◌+◌, ◌-◌, ◌<◌, ◌≡◌, inl, List, [], ◌∷◌, ◌++◌, take, refl, sym, ◌∙◌, ap, subst, arith, append-nil, append_assoc}
use Rattle.spsc_queue.proofs.Common.{slice_index, Entry, OpeningValue, Write, pending, own_stores, memory_word, LegalAfter, LegalAfter-back, Kind, lamport}
use Rattle.spsc_queue.proofs.Common.{fastforward, RingBuffer, slot_address, ProtocolState, at_start, protocol_next, protocol_after, parties_after}
use Rattle.spsc_queue.proofs.Common.{KeepsProtocol, FollowsSpscProtocol, available_of, available_count}
use Rattle.queue_parties.proofs.Records.{numbers-same}
use Rattle.spsc_queue.specs.Laws.{IsPrefix, available_words}
use Rattle.spsc_queue.proofs.Offsets.{slot_word}
use Rattle.spsc_queue.proofs.OwnWords.{Own, none_leave, own-rest}
use Rattle.spsc_queue.proofs.States.{firsts, spare_capacity, Known, near-counts}
use Rattle.spsc_queue.proofs.Counts.{number_of, publishes_to, releases_to}
use Rattle.spsc_queue.proofs.Numbers.{firsts-numbers, numbers-at}
use Rattle.spsc_queue.proofs.Growing.{length-firsts, firsts-split, Grown, protocol-grown, protocol-append, keeps-back, follows-front}
use Rattle.spsc_queue.proofs.Points.{At}
use Rattle.spsc_queue.proofs.LamportRuns.{lamport_at}
use Rattle.spsc_queue.proofs.FastForwardRuns.{fastforward_at}
use Rattle.spsc_queue.proofs.Contents.{Content, counts, content-next}

pub at-of : (B : ℕ) (r : RingBuffer) (o : OpeningValue) (before es : List Entry) → FollowsSpscProtocol B r o before es
    → At r.kind r o (before ++ es) (parties_after r o before es)
at-of B r o before es f = by r.kind refl
  where
    by : (k : Kind) → r.kind ≡ k → At k r o (before ++ es) (parties_after r o before es)
    by lamport kind = lamport_at B r o before es kind f
    by fastforward kind = fastforward_at B r o before es kind f

-- how many such stores the parties had made before a run
abbrev pub sent_before : RingBuffer → List Entry → ℕ
sent_before r before = number_of (publishes_to r.kind r) (own_stores r.sender before)

abbrev pub freed_before : RingBuffer → List Entry → ℕ
freed_before r before = number_of (releases_to r.kind r) (own_stores r.receiver before)

module _ (B : ℕ) (r : RingBuffer) (F : List ℕ) (o : OpeningValue) (before : List Entry) where
  abbrev Has : List Entry → ProtocolState → Type 0
  Has now s = Content r.kind r (slice_index F) o (sent_before r before) (freed_before r before) now s

  content-after : (done es : List Entry) → FollowsSpscProtocol B r o before (done ++ es) → Has (before ++ done) (parties_after r o before done)
      → (more : List ℕ) × (F ≡ (protocol_after r (parties_after r o before done) es).sent ++ more)
      → Has (before ++ (done ++ es)) (protocol_after r (parties_after r o before done) es)
  content-after done [] f c ahead = subst (λ xs. Has (before ++ xs) (parties_after r o before done)) (sym (append-nil done)) c
  content-after done (e ∷ es) f c ahead =
      let s : ProtocolState = parties_after r o before done in
      let front : FollowsSpscProtocol B r o before done = follows-front B r o before done (e ∷ es) f in
      let later : LegalAfter B o (before ++ done) (e ∷ es) =
      LegalAfter-back B o [] (before ++ done) (e ∷ es) (subst (LegalAfter B o []) (sym (append_assoc before done (e ∷ es))) f.legal) in
      let keeps : KeepsProtocol r (parties_after r o before done) (e ∷ es) = keeps-back r (at_start r o before) done (e ∷ es) f.keeps in
      let grown = protocol-grown r (protocol_next r s e) es keeps.1 in
      let step : parties_after r o before (done ++ e ∷ []) ≡ protocol_next r (parties_after r o before done) e =
      protocol-append r (at_start r o before) done (e ∷ []) in
      let one : Has ((before ++ done) ++ e ∷ []) (protocol_next r (parties_after r o before done) e) =
      content-next B r.kind r f.ring refl F o (sent_before r before) (freed_before r before) (before ++ done) s (at-of B r o before done front) c front.legal
      e later.0 keeps.0 (grown.0 ++ ahead.0, ahead.1 ∙ ap (λ xs. xs ++ ahead.0) grown.1 ∙ append_assoc (protocol_next r s e).sent grown.0 ahead.0) in
      subst (λ z. Has (before ++ (done ++ e ∷ es)) (protocol_after r z es)) step
      (subst (λ xs. Has (before ++ xs) (protocol_after r (parties_after r o before (done ++ e ∷ [])) es)) (append_assoc done (e ∷ []) es)
      (content-after (done ++ e ∷ []) es (subst (FollowsSpscProtocol B r o before) (sym (append_assoc done (e ∷ []) es)) f)
      (subst (λ xs. Has xs (parties_after r o before (done ++ e ∷ []))) (append_assoc before done (e ∷ []))
      (subst (Has ((before ++ done) ++ e ∷ [])) (sym step) one))
      (subst (λ z. (more : List ℕ) × (F ≡ (protocol_after r z es).sent ++ more)) (sym step) ahead)))

  begins : (f : FollowsSpscProtocol B r o before []) → ((j : ℕ) → j < r.begins_with → slice_index F j ≡ memory_word o before (slot_address r j))
      → Has before (at_start r o before)
  begins f first = record {
    contents = record {
      sent = numbers-same (λ j. memory_word o before (slot_address r j)) L 0 r.begins_with (λ j from below. sym (first j (omega (arith, below))))
          ∙ sym (firsts-numbers L r.begins_with);
      received = refl;
      holds = tt;
      nonzero = λ kind j below zero. f.rest.words kind j below (sym (first j below) ∙ zero);
      alone = λ kind y from below g other. none_leave r y (pending_of g) (f.rest.pending g)
          (omega (arith, from, f.ring.slots_above)) (omega (arith, below, f.ring.slots_below));
      words = λ j from below. record {
        front = before;
        back = [];
        is = sym (append-nil before);
        own = own j below r.sender;
        leaves = λ y low high. tt;
        since = inl (own j below);
      };
    };
    mine = ap (λ n. n + sent_before r before) (all r.kind);
    theirs = omega arith;
  }
    where
      L : ℕ → ℕ
      L = slice_index F

      pending_of : ℕ → List Write
      pending_of g = pending g before

      all : (k : Kind) → available_of k (at_start r o before) ≡ r.begins_with
      all lamport = refl
      all fastforward = refl

      own : (j : ℕ) → j < r.begins_with → (h : ℕ) → Own h o before (slot_address r j) (slice_index F j)
      own j below h = let word = slot_word r f.ring j in
          subst (Own h o before (slot_address r j)) (sym (first j below)) (own-rest r o before h (slot_address r j) word.above word.below f.rest.pending)

-- of every run that keeps the protocol, and each of its beginnings, by the words of the whole
pub content-of : (B : ℕ) (r : RingBuffer) (o : OpeningValue) (before es fs : List Entry) → FollowsSpscProtocol B r o before (es ++ fs)
    → Content r.kind r (slice_index (parties_after r o before (es ++ fs)).sent) o (sent_before r before) (freed_before r before) (before ++ es)
    (parties_after r o before es)
content-of B r o before es fs t = content-after B r F o before [] es (follows-front B r o before es fs t)
    (subst (λ xs. Content r.kind r (slice_index F) o (sent_before r before) (freed_before r before) xs (at_start r o before)) (sym (append-nil before))
    (begins B r F o before (follows-front B r o before [] (es ++ fs) t) first)) (grown.0, is)
  where
    F : List ℕ
    F = (parties_after r o before (es ++ fs)).sent

    all : Grown (at_start r o before) (parties_after r o before (es ++ fs))
    all = protocol-grown r (at_start r o before) (es ++ fs) t.keeps

    first : (j : ℕ) → j < r.begins_with → slice_index F j ≡ memory_word o before (slot_address r j)
    first j below =
        let word : ℕ → ℕ = λ i. memory_word o before (slot_address r i) in
        let at : 0 + j ≡ j = omega arith in
        ap (λ xs. slice_index xs j) all.1 ∙ numbers-at word 0 r.begins_with all.0 j below ∙ ap word at

    grown : Grown (parties_after r o before es) (protocol_after r (parties_after r o before es) fs)
    grown = protocol-grown r (parties_after r o before es) fs (keeps-back r (at_start r o before) es fs t.keeps)

    is : F ≡ (parties_after r o before es).sent ++ grown.0
    is = ap (λ (s : ProtocolState). s.sent) (protocol-append r (at_start r o before) es fs) ∙ grown.1

pub known-of : (B : ℕ) (r : RingBuffer) (o : OpeningValue) (before es fs : List Entry) → FollowsSpscProtocol B r o before (es ++ fs)
    → Known r.kind r (slice_index (parties_after r o before (es ++ fs)).sent) (parties_after r o before es)
known-of B r o before es fs t =
    let s : ProtocolState = parties_after r o before es in
    let front : FollowsSpscProtocol B r o before es = follows-front B r o before es fs t in
    let at : At r.kind r o (before ++ es) (parties_after r o before es) = at-of B r o before es front in
    let c = content-of B r o before es fs t in
    let near = near-counts r s.stored s.published s.sending at.placed_at in
    let bounds = counts B r.kind r (slice_index (parties_after r o before (es ++ fs)).sent) o (sent_before r before) (freed_before r before) (before ++ es)
    (parties_after r o before es) at c front.legal in
    record {
      sent = c.sent;
      received = c.received;
      sending = at.placed_at;
      receiving = at.asked_at;
      published_stored = near.0;
      stored_published = near.1;
      taken_available = omega (arith, bounds.3, bounds.0);
      available_stored = bounds.1;
      room = omega (arith, at.ready_freed, bounds.2, spare_capacity r.kind r.size t.ring.some_slots);
    }

-- what is received is a prefix of what the receiver may take, whatever else the harts do
pub delivered : (B : ℕ) (r : RingBuffer) (o : OpeningValue) (before es : List Entry) → FollowsSpscProtocol B r o before es
    → IsPrefix (parties_after r o before es).received (available_words r (parties_after r o before es))
delivered B r o before es t = (rest.0, whole)
  where
    s : ProtocolState
    s = parties_after r o before es

    L : ℕ → ℕ
    L = slice_index (parties_after r o before (es ++ [])).sent

    n : ℕ
    n = available_count r s

    facts : Known r.kind r L s
    facts = known-of B r o before es [] (subst (FollowsSpscProtocol B r o before) (sym (append-nil es)) t)

    rest : (more : List ℕ) × (firsts L (s.taken + (n - s.taken)) ≡ firsts L s.taken ++ more)
    rest = firsts-split L s.taken (n - s.taken)

    all : (more : List ℕ) × (firsts L (n + (s.stored - n)) ≡ firsts L n ++ more)
    all = firsts-split L n (s.stored - n)

    upto : s.taken + (n - s.taken) ≡ n
    upto = omega (arith, facts.taken_available)

    whole_count : n + (s.stored - n) ≡ s.stored
    whole_count = omega (arith, facts.available_stored)

    whole : take n s.sent ≡ s.received ++ rest.0
    whole = ap (take n) (facts.sent ∙ ap (firsts L) (sym whole_count) ∙ all.1) ∙ ap (λ m. take m (firsts L n ++ all.0)) (sym (length-firsts L n))
        ∙ take-append_seam (firsts L n) all.0 ∙ ap (firsts L) (sym upto) ∙ rest.1 ∙ ap (λ xs. xs ++ rest.0) (sym facts.received)
