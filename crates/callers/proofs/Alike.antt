-- A queue that can be used owes nothing at the opening, so two answers to one input have one exit status.
use Rattle.std.proofs.Common.{ℕ, ◌≡◌, ◌+◌, ◌-◌, ◌*◌, ◌/◌, ◌%◌, ◌<◌, ◌≤◌, min, not, nat_lt, inl, inr, Bool, true, false, List, [], Some, refl, sym, ap, subst}
use Rattle.std.proofs.Common.{◌∙◌, arith, add-zero}
use Rattle.std.proofs.lemmas.Bool.{cases_order, cases_lt}
use Rattle.std.proofs.lemmas.Bool.Decides.{nat_tests}
use Rattle.std.proofs.Math.Nat.{add-mod_right, mod-eq_of_lt, mod-lt}
use Rattle.step_machine.specs.declared.events.Event.{Event}
use Rattle.step_machine.specs.Names.{OpeningValue, History, at_opening, memory_word}
use Rattle.step_machine.proofs.Running.{run-one}
use Rattle.rv_decode.specs.Listings.{Listed}
use Rattle.spsc_queue.specs.RingBuffers.{slot_address}
use Rattle.spsc_queue.specs.Calls.{copy_in, buffer, HasFunction}
use Rattle.callers.specs.{kind_of, caches_tail, slots_after, start_in, waiting_in, spsc_of, sends_by, receives_by, HasFirstCopy, IsLocated, waits_in, IsOldTail}
use Rattle.callers.specs.{IsOpeningViolation, first_caller_violation, KeepsObligations, HasCallerViolation, IsCallersOutput, IsOutputOfRuns, call_schedule}
use Rattle.callers.specs.{kept_text, Calls, CallerViolation, QueueKind, Queue, Located}
use Rattle.drawn_runs.specs.Samples.{DrawnRuns}
use Rattle.judged_runs.specs.Finding.{AreAllGood}
use Rattle.judged_runs.specs.Telling.{MOST, summed}
use Rattle.judged_runs.proofs.Histories.{runs_one}
use Rattle.callers.specs.Counts.{AreCountsOf, are_none, sends as sends_in, receives as receives_in}
use Rattle.callers.specs.declared.counts.Counts.{Counts}
use Rattle.callers.specs.declared.violations.CallerViolation.TheVariants as violation
use Rattle.callers.specs.declared.queue.QueueKind.TheVariants as kind
use Rattle.callers.proofs.Exact.{none_owed}
use Rattle.callers.proofs.Rest.{on_from, back_from, at_any}

-- ---- where a queue begins that can be used

-- a queue whose sender keeps a copy of the tail has it 4 bytes after its base
copy_at : (k : QueueKind) (base : ℕ) → caches_tail k ≡ true → copy_in (kind_of k) (caches_tail k) base ≡ Some (base + 4)
copy_at kind.Lamport base keeps = absurd (cc)
copy_at kind.Cached base keeps = refl
copy_at kind.FastForward base keeps = absurd (cc)

-- four times a slot's number is its offset
offset_is : (w n S : ℕ) → w ≡ 4 * n → n < S → (w % 4 ≡ 0) × (w < 4 * S)
offset_is w n S is below = (omega (arith, is), omega (arith, is, below))

module _ (M : ℕ) (o : OpeningValue) (l : Located) (located : IsLocated M o l.queue l) where
  abbrev S : ℕ
  S = l.queue.slots

  at_start : memory_word o [] (l.queue.base + 64) ≡ 4 * l.start
  at_start = located.rest.tail ∙ ap (λ (n : ℕ). 4 * n) (ap (λ (n : ℕ). n % S) (add-zero l.start) ∙ mod-eq_of_lt located.start)

  start : l.start ≡ start_in o l.queue
  start = omega (arith, at_start)

  -- how many slots after the first a slot comes tells whether a word waits in it
  waits_at : (j : ℕ) (waits : Bool) → waits_in o l.queue j ≡ waits → nat_lt (slots_after S l.start j) l.waiting ≡ waits
  waits_at j waits is = ap (λ n. nat_lt (slots_after S n j) l.waiting) start ∙ ap (nat_lt (slots_after S (start_in o l.queue) j)) located.waiting ∙ is

  slot_at : (j : ℕ) → j < S → l.queue.base + 128 + 4 * j ≡ slot_address (buffer (spsc_of l)) (slots_after S l.start j)
  slot_at j below = ap (λ (n : ℕ). l.queue.base + 128 + 4 * n) (sym (on_from S l.start j located.start below))

  old_tail : (w j : ℕ) → l.waiting < j → j ≤ S → w ≡ 4 * ((l.start + j) % S) → IsOldTail o l.queue w
  old_tail w j more most is = (
    offset_is w ((l.start + j) % S) S is (mod-lt (l.start + j) (omega (arith, located.start))),
    elim (cases_lt j S) [
      | inl less ↦ inr (
          let slot : w / 4 ≡ (l.start + j) % S = omega (arith, is) in
          let after : slots_after S (start_in o l.queue) (w / 4) ≡ j =
          ap (λ n. slots_after S n (w / 4)) (sym start) ∙ ap (slots_after S l.start) slot ∙ back_from S l.start j located.start less in
          omega (arith, after, more, located.waiting))
      | inr all ↦ inl (
          let whole : j ≡ S = omega (arith, all, most) in
          let slot : (l.start + j) % S ≡ l.start =
          ap (λ n. (l.start + n) % S) whole ∙ add-mod_right l.start S ∙ mod-eq_of_lt located.start in
          omega (arith, is, slot, start))
    ],
  )

  excluded : (d : CallerViolation) → IsOpeningViolation M o l.queue d → ⊥
  excluded violation.NoBlock has_violation = has_violation (at_any M l.queue l.start l.waiting 0 0 located.block)
  excluded (violation.OneParty h) has_violation = located.parties (sym has_violation.0 ∙ has_violation.1)
  excluded (violation.NoSend k h) has_violation = has_violation.2 l.send_line
      (subst (λ (x : ℕ). HasFunction o x l.send_line (sends_by k)) (sym has_violation.1)
      (subst (λ (x : QueueKind). HasFunction o l.queue.sender l.send_line (sends_by x)) (sym has_violation.0) located.sends.here))
  excluded (violation.NoReceive k h) has_violation = has_violation.2 l.receive_line
      (subst (λ (x : ℕ). HasFunction o x l.receive_line (receives_by k)) (sym has_violation.1)
      (subst (λ (x : QueueKind). HasFunction o l.queue.receiver l.receive_line (receives_by x)) (sym has_violation.0) located.receives.here))
  excluded (violation.NoOffset a w) has_violation = elim has_violation.0 [
    | inl head ↦ (
        let is : w ≡ 4 * ((l.start + l.waiting) % S) = sym has_violation.1 ∙ ap (memory_word o []) head ∙ located.rest.head in
        has_violation.2 (offset_is w ((l.start + l.waiting) % S) S is (mod-lt (l.start + l.waiting) (omega (arith, located.start)))))
    | inr tail ↦ (
        let is : w ≡ 4 * l.start = sym has_violation.1 ∙ ap (memory_word o []) tail ∙ at_start in has_violation.2 (offset_is w l.start S is located.start))
  ]
  excluded (violation.NoCopy a w) has_violation =
      let opens = located.rest.copy (l.queue.base + 4) (copy_at l.queue.kind l.queue.base has_violation.0) in
      has_violation.3 (old_tail w opens.0 opens.1 opens.2 (sym has_violation.2 ∙ ap (memory_word o []) has_violation.1 ∙ opens.3))
  excluded (violation.NotFree a w) has_violation =
      let j : ℕ = has_violation.1.0 in
      let free = waits_at j false has_violation.1.3 in
      let least : l.waiting ≤ slots_after S l.start j = grind (arith, nat_tests, free) in
      has_violation.3 (sym has_violation.2 ∙ ap (memory_word o []) (has_violation.1.2 ∙ slot_at j has_violation.1.1)
      ∙ located.rest.free has_violation.0 (slots_after S l.start j) least (mod-lt (j + S - l.start) (omega (arith, located.start))))
  excluded (violation.NoWord a) has_violation =
      let j : ℕ = has_violation.1.0 in
      let waits = waits_at j true has_violation.1.3 in
      let most : slots_after S l.start j < l.waiting = grind (arith, nat_tests, waits) in
      located.rest.words has_violation.0 (slots_after S l.start j) most
      (sym (ap (memory_word o []) (has_violation.1.2 ∙ slot_at j has_violation.1.1)) ∙ has_violation.2)
  excluded (violation.Wrote h pc a) has_violation = has_violation
  excluded (violation.PassedBytes h bytes) has_violation = has_violation
  excluded (violation.PassedWord h) has_violation = has_violation
  excluded (violation.PassedReturn h back) has_violation = has_violation

pub no_opening_violation : (M : ℕ) (o : OpeningValue) (q : Queue) (l : Located) (d : CallerViolation) → IsLocated M o q l → IsOpeningViolation M o q d → ⊥
no_opening_violation M o q l d located has_violation = excluded M o l (subst (λ (x : Queue). IsLocated M o x l) (sym located.queue_is) located) d
    (subst (λ (x : Queue). IsOpeningViolation M o x d) (sym located.queue_is) has_violation)

-- ---- it is used in one way

one_copy : (o : OpeningValue) (h n m : ℕ) (listing : List Listed) → HasFirstCopy o h n listing → HasFirstCopy o h m listing → n ≡ m
one_copy o h n m listing a b = elim (cases_order n m) [
  | inl same ↦ same
  | inr other ↦ (elim other [
    | inl less ↦ absurd (b.first n less a.here)
    | inr more ↦ absurd (a.first m more b.here)
  ])
]

abbrev located_at : Queue → (start waiting send receive : ℕ) → Located
located_at q start waiting send receive = record { queue = q; start = start; waiting = waiting; send_line = send; receive_line = receive }

module _ (M : ℕ) (o : OpeningValue) (l m : Located) (one : IsLocated M o l.queue l) (other : IsLocated M o l.queue m) where
  -- the second, by the first one's queue
  again : IsLocated M o m.queue m
  again = subst (λ (x : Queue). IsLocated M o x m) (sym other.queue_is) other

  starts : l.start ≡ m.start
  starts =
      let words : memory_word o [] (l.queue.base + 64) ≡ memory_word o [] (m.queue.base + 64) =
      ap (λ (x : Queue). memory_word o [] (x.base + 64)) (sym other.queue_is) in
      let fours : 4 * l.start ≡ 4 * m.start = sym (at_start M o l one) ∙ words ∙ at_start M o m again in
      omega (arith, fours)

  counts : l.waiting ≡ m.waiting
  counts = one.waiting ∙ ap (waiting_in o) (sym other.queue_is) ∙ sym again.waiting

  sends : l.send_line ≡ m.send_line
  sends = one_copy o l.queue.sender l.send_line m.send_line (sends_by l.queue.kind) one.sends
      (subst (λ (x : Queue). HasFirstCopy o x.sender m.send_line (sends_by x.kind)) other.queue_is other.sends)

  receives : l.receive_line ≡ m.receive_line
  receives = one_copy o l.queue.receiver l.receive_line m.receive_line (receives_by l.queue.kind) one.receives
      (subst (λ (x : Queue). HasFirstCopy o x.receiver m.receive_line (receives_by x.kind)) other.queue_is other.receives)

  one_way : l ≡ m
  one_way = ap (λ (x : Queue). located_at x l.start l.waiting l.send_line l.receive_line) (sym other.queue_is)
      ∙ ap (λ (n : ℕ). located_at m.queue n l.waiting l.send_line l.receive_line) starts
      ∙ ap (λ (n : ℕ). located_at m.queue m.start n l.send_line l.receive_line) counts
      ∙ ap (λ (n : ℕ). located_at m.queue m.start m.waiting n l.receive_line) sends
      ∙ ap (λ (n : ℕ). located_at m.queue m.start m.waiting m.send_line n) receives

-- ---- two answers

-- a run that keeps all that is owed has no violation
kept_or_owing : (B M : ℕ) (o : OpeningValue) (l : Located) (events : List Event) (d : CallerViolation) → KeepsObligations B M o l events
    → HasCallerViolation B M o l events d → ⊥
kept_or_owing B M o l events d keeps has_violation =
    let same : keeps.history ≡ has_violation.history = run-one B M (at_opening o) events keeps.history has_violation.history keeps.run has_violation.run in
    let none = none_owed B M o (spsc_of l) keeps.history.entries keeps.uses in
    let some = ap (λ (t : History). first_caller_violation M o (spsc_of l) t.entries) same ∙ has_violation.first in
    absurd (cc)

abbrev calls_of : (sent full received empty : ℕ) → Calls
calls_of sent full received empty = record { sent = sent; full = full; received = received; empty = empty }

-- the output of runs that keep all that is owed, of which some call returned or none
pub kept_output : (d : DrawnRuns) (o : OpeningValue) (l : Located) (text : List ℕ) (counts : Counts)
    → AreAllGood (KeepsObligations d.B d.M o l) (AreCountsOf d.B d.M o l) (call_schedule d o) 0 d.number counts
    → text ≡ kept_text l.queue d.number counts → (called : Bool) → called ≡ not (are_none counts.calls) → IsOutputOfRuns d o l (text, called)
kept_output d o l text counts kept is true some = record { counts = counts; kept = kept; called_is = some; text_is = is }
kept_output d o l text counts kept is false none = inl (record { counts = counts; kept = kept; called_is = none; text_is = is })

-- the same runs count to the same calls
one_count : (B M : ℕ) (o : OpeningValue) (l : Located) (all : List (List Event)) (a b : Counts) → AreCountsOf B M o l all a → AreCountsOf B M o l all b
    → a.calls ≡ b.calls
one_count B M o l all a b one other =
    let same : one.histories ≡ other.histories = runs_one B M o all one.histories other.histories one.runs other.runs in
    let q = spsc_of l in
    let x = a.calls in
    let y = b.calls in
    ap (λ (n : ℕ). calls_of n x.full x.received x.empty)
    (one.calls.sent ∙ ap (λ hs. min (summed (λ t. sends_in M o q 1 t.entries) hs) MOST) same ∙ sym other.calls.sent)
    ∙ ap (λ (n : ℕ). calls_of y.sent n x.received x.empty)
    (one.calls.full ∙ ap (λ hs. min (summed (λ t. sends_in M o q 0 t.entries) hs) MOST) same ∙ sym other.calls.full)
    ∙ ap (λ (n : ℕ). calls_of y.sent y.full n x.empty)
    (one.calls.received ∙ ap (λ hs. min (summed (λ t. receives_in M o q 1 t.entries) hs) MOST) same ∙ sym other.calls.received)
    ∙ ap (λ (n : ℕ). calls_of y.sent y.full y.received n)
    (one.calls.empty ∙ ap (λ hs. min (summed (λ t. receives_in M o q 0 t.entries) hs) MOST) same ∙ sym other.calls.empty)

module _ (d : DrawnRuns) (o : OpeningValue) (q : Queue) (text other : List ℕ) where
  runs_differ : (l : Located) → IsOutputOfRuns d o l (text, true) → IsOutputOfRuns d o l (other, false) → ⊥
  runs_differ l kept (inl uncalled) =
      let same = one_count d.B d.M o l _ kept.counts uncalled.counts kept.kept.counted uncalled.kept.counted in
      let differ : true ≡ false = kept.called_is ∙ ap (λ (c : Calls). not (are_none c)) same ∙ sym uncalled.called_is in
      absurd (cc)
  runs_differ l kept (inr shown) =
      let first = shown.is_told.is_first in
      kept_or_owing d.B d.M o l (call_schedule d o shown.is_told.number) shown.is_told.flaw
      (kept.kept.good shown.is_told.number (omega arith) first.within) first.has

  never_both : IsCallersOutput d o q (text, true) → IsCallersOutput d o q (other, false) → ⊥
  never_both kept (inl there) = no_opening_violation d.M o q kept.located there.violation kept.usable there.has_violation.0
  never_both kept (inr owing) =
      let l = kept.located in
      let m = owing.located in
      let one = subst (λ (x : Queue). IsLocated d.M o x l) (sym kept.usable.queue_is) kept.usable in
      let two = subst (λ (x : Queue). IsLocated d.M o x m) (sym kept.usable.queue_is) owing.usable in
      let same : l ≡ m = one_way d.M o l m one two in
      runs_differ l kept.output_of (subst (λ (x : Located). IsOutputOfRuns d o x (other, false)) (sym same) owing.output_of)

pub status_alike : (d : DrawnRuns) (o : OpeningValue) (q : Queue) (text other : List ℕ) (a b : Bool)
    → IsCallersOutput d o q (text, a) → IsCallersOutput d o q (other, b) → a ≡ b
status_alike d o q text other true true one two = refl
status_alike d o q text other false false one two = refl
status_alike d o q text other true false one two = absurd (never_both d o q text other one two)
status_alike d o q text other false true one two = absurd (never_both d o q other text two one)
