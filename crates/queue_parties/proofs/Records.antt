-- Lists of records by their positions: what entries pass is a number for each position, from the count before to the one after.
use Rattle.std.proofs.Common.{ℕ, zero, suc, ◌+◌, ◌-◌, ◌<◌, ◌≤◌, ◌≡◌, ◌⊎◌, inl, inr, Bool, true, false, if◌then◌else◌}
use Rattle.std.proofs.Common.{List, [], ◌∷◌, ◌++◌, refl, sym, ◌∙◌, ap, subst, arith}
use Rattle.std.proofs.Common.{append-nil, append_assoc}
use Rattle.std.specs.Prelude.{nat_lt}
use Rattle.std.proofs.lemmas.Bool.{cases_lt, lt-ltb, ltb-true}
use Rattle.step_machine.specs.declared.events.Entry.{Entry}
use Rattle.queue_parties.proofs.Parties.{Passed}
use Rattle.memory.proofs.Bytes.{joined-same}
use Rattle.step_machine.specs.Names.{OpeningValue, read, read_byte}
use Rattle.store_buffers.specs.StoreBuffers.{LeavesByteAt}
use Rattle.queue_parties.specs.{the_sender, QueueCounts, count, counts_from, IsPrefix, numbers_from, records_passed, slot_from}
use Rattle.queue_parties.proofs.Positions.{Shape, IsByteOf, end}
use Rattle.queue_parties.proofs.Runs.{Run, front, grown, waited}

pub numbers-none : (R : ℕ → ℕ) (k : ℕ) → numbers_from R k 0 ≡ []
unfolding numbers_from
numbers-none R k = refl

pub numbers-split : (R : ℕ → ℕ) (k i j : ℕ) → numbers_from R k (i + j) ≡ numbers_from R k i ++ numbers_from R (k + i) j
unfolding numbers_from
numbers-split R k zero j = let z : zero + j ≡ j = omega arith in
    let at : k ≡ k + zero = omega arith in ap (numbers_from R k) z ∙ ap (λ l. numbers_from R l j) at
numbers-split R k (suc i) j =
    let turned : suc i + j ≡ suc (i + j) = omega arith in
    let at : (k + 1) + i ≡ k + suc i = omega arith in
    ap (numbers_from R k) turned ∙ ap (λ xs. R k ∷ xs) (numbers-split R (k + 1) i j ∙ ap (λ l. numbers_from R (k + 1) i ++ numbers_from R l j) at)

pub numbers-same : (R S : ℕ → ℕ) (k number : ℕ) → ((i : ℕ) → k ≤ i → i < k + number → R i ≡ S i) → numbers_from R k number ≡ numbers_from S k number
unfolding numbers_from
numbers-same R S k zero is = refl
numbers-same R S k (suc number) is =
    ap (λ x. x ∷ numbers_from R (k + 1) number) (is k (omega arith) (omega arith))
    ∙ ap (λ xs. S k ∷ xs) (numbers-same R S (k + 1) number (λ i from below. is i (omega (arith, from)) (omega (arith, below))))

-- fewer of the same positions are a beginning
pub numbers-prefix : (R : ℕ → ℕ) (k few many : ℕ) → few ≤ many → IsPrefix (numbers_from R k few) (numbers_from R k many)
numbers-prefix R k few many le =
    let whole : few + (many - few) ≡ many = omega (arith, le) in
    (numbers_from R (k + few) (many - few), ap (numbers_from R k) (sym whole) ∙ numbers-split R k few (many - few))

pub not_less : (k n : ℕ) → n ≤ k → nat_lt k n ≡ false
not_less k n le = by (nat_lt k n) refl
  where
    by : (b : Bool) → nat_lt k n ≡ b → b ≡ false
    by false off = refl
    by true on = absurd (let lt : k < n = ltb-true k n on in omega (arith, lt, le))

module _ (next : QueueCounts → Entry → QueueCounts) (far : QueueCounts → ℕ) (record_of : List Entry → Entry → ℕ → ℕ)
    (grown : (c : QueueCounts) (e : Entry) → far c ≤ far (next c e)) where
  pub grown-all : (c : QueueCounts) (es : List Entry) → far c ≤ far (counts_from next c es)
  grown-all c [] = omega arith
  grown-all c (e ∷ es) = let one : far c ≤ far (next c e) = grown c e in
      let all : far (next c e) ≤ far (counts_from next (next c e) es) = grown-all (next c e) es in omega (arith, one, all)

  -- each position that the count has passed was passed by some entry
  pub passed : (c : QueueCounts) (es : List Entry) (k : ℕ) → far c ≤ k → k < far (counts_from next c es) → Passed next far c es k
  passed c [] k from past = absurd (omega (arith, from, past))
  passed c (e ∷ es) k from past = elim (cases_lt k (far (next c e))) [
    | inl lt ↦ record { done = []; entry = e; rest = es; is = refl; from = from; past = lt }
    | inr le ↦
        let more : Passed next far (next c e) es k = passed (next c e) es k le past in
        record { done = e ∷ more.done; entry = more.entry; rest = more.rest; is = ap (λ xs. e ∷ xs) more.is; from = more.from; past = more.past }
  ]

  -- R has the record of each position that is passed
  abbrev pub HasRecords : (ℕ → ℕ) → QueueCounts → (before es : List Entry) → Type 0
  HasRecords R c before es = (es1 : List Entry) (e : Entry) (es2 : List Entry) (k : ℕ) → es ≡ es1 ++ e ∷ es2 → far (counts_from next c es1) ≤ k
      → k < far (counts_from next c (es1 ++ e ∷ [])) → record_of (before ++ es1) e k ≡ R k

  later : (R : ℕ → ℕ) (c : QueueCounts) (before : List Entry) (e : Entry) (es : List Entry) → HasRecords R c before (e ∷ es)
      → HasRecords R (next c e) (before ++ e ∷ []) es
  later R c before e es is es1 e1 es2 k split from past =
      ap (λ xs. record_of xs e1 k) (append_assoc before (e ∷ []) es1) ∙ is (e ∷ es1) e1 es2 k (ap (λ xs. e ∷ xs) split) from past

  pub records-are : (R : ℕ → ℕ) (c : QueueCounts) (before es : List Entry) → HasRecords R c before es
      → records_passed next far record_of c before es ≡ numbers_from R (far c) (far (counts_from next c es) - far c)
  unfolding records_passed
  records-are R c before [] is = let none : far c - far c ≡ 0 = omega arith in sym (ap (numbers_from R (far c)) none ∙ numbers-none R (far c))
  records-are R c before (e ∷ es) is =
      let d : QueueCounts = next c e in
      let one : far c ≤ far d = grown c e in
      let all : far d ≤ far (counts_from next d es) = grown-all d es in
      let parts : (far d - far c) + (far (counts_from next d es) - far d) ≡ far (counts_from next d es) - far c = omega (arith, one, all) in
      let at : far c + (far d - far c) ≡ far d = omega (arith, one) in
      ap (λ xs. xs ++ records_passed next far record_of d (before ++ e ∷ []) es) (numbers-same (record_of before e) R (far c) (far d - far c)
      (λ k from below. ap (λ xs. record_of xs e k) (sym (append-nil before)) ∙ is [] e es k refl from (omega (arith, below, at))))
      ∙ ap (λ xs. numbers_from R (far c) (far d - far c) ++ xs) (records-are R d (before ++ e ∷ []) es (later R c before e es is)
      ∙ ap (λ k. numbers_from R k (far (counts_from next d es) - far d)) (sym at))
      ∙ sym (numbers-split R (far c) (far d - far c) (far (counts_from next d es) - far d))
      ∙ ap (numbers_from R (far c)) parts

  -- the record of position k, where an entry passes it
  pub record_passed : QueueCounts → (before es : List Entry) → (k : ℕ) → ℕ
  record_passed c before [] k = 0
  record_passed c before (e ∷ es) k = if nat_lt k (far (next c e)) then record_of before e k else record_passed (next c e) (before ++ e ∷ []) es k

  pub own-records : (c : QueueCounts) (before es : List Entry) → HasRecords (record_passed c before es) c before es
  unfolding record_passed
  own-records c before es [] e es2 k split from past =
      ap (λ xs. record_of xs e k) (append-nil before)
      ∙ sym (ap (λ ys. record_passed c before ys k) split
      ∙ ap (λ b. if b then record_of before e k else record_passed (next c e) (before ++ e ∷ []) es2 k) (lt-ltb k (far (next c e)) past))
  own-records c before es (d ∷ es1) e es2 k split from past =
      let less : far (next c d) ≤ k = (let more : far (next c d) ≤ far (counts_from next (next c d) es1) =
      grown-all (next c d) es1 in omega (arith, more, from)) in
      ap (λ xs. record_of xs e k) (sym (append_assoc before (d ∷ []) es1))
      ∙ own-records (next c d) (before ++ d ∷ []) (es1 ++ e ∷ es2) es1 e es2 k refl from past
      ∙ sym (ap (λ ys. record_passed c before ys k) split
      ∙ ap (λ b. if b then record_of before d k else record_passed (next c d) (before ++ d ∷ []) (es1 ++ e ∷ es2) k)
      (not_less k (far (next c d)) less))

-- ---- in a run that keeps a protocol of ownership: what the receiver reads of the positions that it takes, or learns of, is a beginning of what waited
-- and what the sender published

-- The record of a position is what its slot held, as hart `first` read it where the run begins, or as the sender's hart read it at `point` of the entry by
-- which it published it
module _ (s : Shape) (next : QueueCounts → Entry → QueueCounts) (start : QueueCounts) (B : ℕ) (o : OpeningValue) (before es : List Entry)
    (r : Run s next start B o before es) (first : ℕ) (point : List Entry → Entry → List Entry) where
  abbrev at : List Entry → QueueCounts
  at done = counts_from next start done

  abbrev record_at : List Entry → (h k : ℕ) → ℕ
  record_at xs h k = read o xs h (slot_from s.slots s.width s.size k) s.width

  abbrev sent_record : List Entry → Entry → ℕ → ℕ
  sent_record xs e k = record_at (point xs e) s.sender k

  sent-grows : (c : QueueCounts) (e : Entry) → c.published ≤ (next c e).published
  sent-grows c e = (r.grows c e).counts the_sender

  abbrev sent_records : ℕ → ℕ
  sent_records = record_passed next (count the_sender) sent_record sent-grows start before es

  pub R : ℕ → ℕ
  R k = if nat_lt k start.published then record_at before first k else sent_records k

  R-waiting : (k : ℕ) → k < start.published → record_at before first k ≡ R k
  unfolding R
  R-waiting k lt = sym (ap (λ b. if b then record_at before first k else sent_records k) (lt-ltb k start.published lt))

  R-sent : (k : ℕ) → start.published ≤ k → sent_records k ≡ R k
  unfolding R
  R-sent k le = sym (ap (λ b. if b then record_at before first k else sent_records k) (not_less k start.published le))

  sent : HasRecords next (count the_sender) sent_record sent-grows R start before es
  sent es1 e es2 k split from past =
      let more : start.published ≤ (at es1).published = (grown s next start B o before es r [] es1).counts the_sender in
      own-records next (count the_sender) sent_record sent-grows start before es es1 e es2 k split from past ∙ R-sent k (omega (arith, more, from))

  -- all records from position k0 on
  all-from : (k0 : ℕ) → k0 ≤ start.published → numbers_from (record_at before first) k0 (start.published - k0)
      ++ records_passed next (count the_sender) sent_record start before es ≡ numbers_from R k0 ((at es).published - k0)
  all-from k0 le =
      let more : start.published ≤ (at es).published = (grown s next start B o before es r [] es).counts the_sender in
      let parts : (start.published - k0) + ((at es).published - start.published) ≡ (at es).published - k0 = omega (arith, le, more) in
      let place : k0 + (start.published - k0) ≡ start.published = omega (arith, le) in
      ap (λ xs. xs ++ records_passed next (count the_sender) sent_record start before es)
      (numbers-same (record_at before first) R k0 (start.published - k0) (λ i from below. R-waiting i (omega (arith, below, place))))
      ∙ ap (λ xs. numbers_from R k0 (start.published - k0) ++ xs)
      (records-are next (count the_sender) sent_record sent-grows R start before es sent
      ∙ ap (λ k. numbers_from R k ((at es).published - start.published)) (sym place))
      ∙ sym (numbers-split R k0 (start.published - k0) ((at es).published - start.published)) ∙ ap (numbers_from R k0) parts

  -- so what some count passes is a beginning of these, if the count is no further than the sender's, and what is read of each position is its record
  pub in-order : (far : QueueCounts → ℕ) (record_of : List Entry → Entry → ℕ → ℕ) (grows : (c : QueueCounts) (e : Entry) → far c ≤ far (next c e))
      → HasRecords next far record_of grows R start before es → far start ≤ start.published → far (at es) ≤ (at es).published
      → IsPrefix (records_passed next far record_of start before es)
      (numbers_from (record_at before first) (far start) (start.published - far start) ++ records_passed next (count the_sender) sent_record start before es)
  in-order far record_of grows has low less =
      let few : far (at es) - far start ≤ (at es).published - far start = omega (arith, less) in
      subst (λ xs. IsPrefix xs (numbers_from (record_at before first) (far start) (start.published - far start)
      ++ records_passed next (count the_sender) sent_record start before es)) (sym (records-are next far record_of grows R start before es has))
      (subst (IsPrefix (numbers_from R (far start) (far (at es) - far start))) (sym (all-from (far start) low))
      (numbers-prefix R (far start) (far (at es) - far start) ((at es).published - far start) few))

  -- ---- where the record of position k came from, and that the receiver's hart has stored nothing over it since

  abbrev pub IsUntouched : (k : ℕ) → List Entry → Type 0
  IsUntouched k gs = (x : ℕ) → IsByteOf s k x → LeavesByteAt s.receiver x gs

  pub record Published (es1 : List Entry) (k : ℕ) : Type 0 where
    pub by : Passed next (count the_sender) start es1 k
    pub since : IsUntouched k by.rest

  abbrev pub Source : (es1 : List Entry) (k : ℕ) → Type 0
  Source es1 k = ((k < start.published) × IsUntouched k es1) ⊎ ((start.published ≤ k) × Published es1 k)

  pub source : (es1 es2 : List Entry) → es ≡ es1 ++ es2 → (k : ℕ) → k < (at es1).published
      → ((fr gs : List Entry) → es1 ≡ fr ++ gs → k < end s the_sender (at fr) → IsUntouched k gs) → Source es1 k
  source es1 es2 split k there untouched = elim (cases_lt k start.published) [
    | inl lt ↦ inl (lt, untouched [] es1 refl (omega (arith, lt, (r.window [] es refl).published)))
    | inr le ↦
        let d : Passed next (count the_sender) start es1 k = passed next (count the_sender) sent_record sent-grows start es1 k le there in
        let join : es1 ≡ (d.done ++ d.entry ∷ []) ++ d.rest = d.is ∙ sym (append_assoc d.done (d.entry ∷ []) d.rest) in
        inr (
          le,
          record {
            by = d;
            since = untouched (d.done ++ d.entry ∷ []) d.rest join (omega (
              arith,
              d.past,
              (r.window (d.done ++ d.entry ∷ []) (d.rest ++ es2)
                  (split ∙ ap (λ xs. xs ++ es2) join ∙ append_assoc (d.done ++ d.entry ∷ []) d.rest es2)).published,
            ));
          },
        )
  ]

  -- so the receiver reads it, if it reads what was delivered
  pub reads : (es1 es2 : List Entry) → es ≡ es1 ++ es2 → (k : ℕ) → (at es1).taken ≤ k → Source es1 k
      → ((d : Passed next (count the_sender) start es1 k) (x : ℕ) → IsByteOf s k x → LeavesByteAt s.receiver x d.rest
      → read_byte o (before ++ es1) s.receiver x ≡ read_byte o (point (before ++ d.done) d.entry) s.sender x)
      → record_at (before ++ es1) s.receiver k ≡ R k
  reads es1 es2 split k given (inl had) delivered =
      joined-same (λ i. read_byte o (before ++ es1) s.receiver (slot_from s.slots s.width s.size k + i))
      (λ i. read_byte o before first (slot_from s.slots s.width s.size k + i)) s.width
      (λ i less. waited s next start B o before es1 (front s next start B o before es es1 es2 split r) k (slot_from s.slots s.width s.size k + i)
      (omega arith, omega (arith, less)) had.0 given (had.1 (slot_from s.slots s.width s.size k + i) (omega arith, omega (arith, less))) first s.receiver)
      ∙ R-waiting k had.0
  reads es1 es2 split k given (inr one) delivered =
      let d : Passed next (count the_sender) start es1 k = one.1.by in
      joined-same (λ i. read_byte o (before ++ es1) s.receiver (slot_from s.slots s.width s.size k + i))
      (λ i. read_byte o (point (before ++ d.done) d.entry) s.sender (slot_from s.slots s.width s.size k + i)) s.width
      (λ i less. delivered d (slot_from s.slots s.width s.size k + i) (omega arith, omega (arith, less))
      (one.1.since (slot_from s.slots s.width s.size k + i) (omega arith, omega (arith, less))))
      ∙ sent d.done d.entry (d.rest ++ es2) k (split ∙ ap (λ xs. xs ++ es2) d.is ∙ append_assoc d.done (d.entry ∷ d.rest) es2) d.from d.past
