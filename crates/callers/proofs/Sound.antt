-- A run with no violation keeps what callers owe.
use Rattle.std.proofs.Common.{ℕ, ◌≡◌, ◌≢◌, ◌==◌, ◌*◌, ◌||◌, Bool, true, false, List, [], ◌∷◌, ◌++◌, Option, Some, None, refl, sym, ap, subst, ◌∙◌, append_assoc}
use Rattle.std.proofs.Common.{append-nil, eq-eqb}
use Rattle.std.specs.Prelude.{if◌then◌else◌, option_map, slice_index}
use Rattle.std.specs.Option.{option_or}
use Rattle.std.proofs.lemmas.Bool.{ne_eqb}
use Rattle.memory.specs.declared.writes.Write.{Write}
use Rattle.memory.specs.Writes.{write}
use Rattle.hart.specs.{HartState, advanced}
use Rattle.step_machine.specs.declared.events.Entry.{Entry}
use Rattle.step_machine.specs.Names.{Access, nothing, load, store, exchange, fence, land, access_of, OpeningValue, history_of, hart_of, is_land, number_read}
use Rattle.step_machine.specs.Names.{state_of, WellFormed}
use Rattle.step_machine.proofs.Follows.{advance_by, state_of-mine}
use Rattle.spsc_queue.specs.RingBuffers.{RingBuffer, overlaps}
use Rattle.spsc_queue.specs.Protocol.{WritesNothingTo}
use Rattle.spsc_queue.specs.Calls.{Block, SpscQueue, Party, the_sender, the_receiver, buffer, enters, is_sender_in_call, is_receiver_in_call, HasArguments}
use Rattle.spsc_queue.specs.Calls.{PartyObligation, CallerObligation, UsesAsSpscQueue}
use Rattle.spsc_queue.proofs.Obligations.{arguments_are}
use Rattle.spsc_queue.proofs.OwnEntries.{land_is}
use Rattle.callers.specs.{spsc_of, IsLocated, Located, is_in_its_call, met_by, written_at, arguments_violation, entering_violation, party_violation, pc_in}
use Rattle.callers.specs.{idle_violation, violation_of, violation_after, first_caller_violation}
use Rattle.spsc_queue.specs.Obligations.{may_pass, has_arguments}
use Rattle.callers.specs.declared.violations.CallerViolation.TheVariants as violation

-- ---- what owes nothing

neither : {A : Type 0} → (a b : Option A) → option_or a b ≡ None → (a ≡ None) × (b ≡ None)
neither None b is = (refl, is)
neither (Some x) b is = absurd (cc)

unmapped : {A C : Type 0} → (f : A → C) (x : Option A) → option_map f x ≡ None → x ≡ None
unmapped f None is = refl
unmapped f (Some x) is = absurd (cc)

not_met : (r : RingBuffer) (w : Write) → met_by r w ≡ None → overlaps r w ≡ false
not_met r w is = by (overlaps r w) refl
  where
    by : (b : Bool) → overlaps r w ≡ b → overlaps r w ≡ false
    by false apart = apart
    by true meets = let some : Some w.addr ≡ None = sym (ap (λ b. if b then Some w.addr else None) meets) ∙ is in absurd (cc)

writes_nothing : (r : RingBuffer) (x : Access) → written_at r x ≡ None → WritesNothingTo r x
writes_nothing r (store w) is = not_met r w is
writes_nothing r (exchange a old new) is = not_met r (write a 4 new) is
writes_nothing r nothing is = tt
writes_nothing r (load a width v) is = tt
writes_nothing r (fence full) is = tt
writes_nothing r land is = tt

arguments_right : (p : Party) (h n : ℕ) (k : Block) (z : HartState) → arguments_violation p h n k z ≡ None → has_arguments p n k z ≡ true
arguments_right p h n k z is =
    by (slice_index z.registers 12 == 4 * k.size) (may_pass p k.kind (slice_index z.registers 11)) (has_arguments p n k z) is
  where
    by : (a b c : Bool)
        → (if a then (if b then (if c then None else Some (violation.PassedReturn h (slice_index z.registers 1)))
        else Some (violation.PassedWord h))
        else Some (violation.PassedBytes h (slice_index z.registers 12))) ≡ None → c ≡ true
    by true true true free = refl
    by true true false free = absurd (cc)
    by true false c free = absurd (cc)
    by false b c free = absurd (cc)

enters_right : (p : Party) (h n : ℕ) (k : Block) (z : HartState) → entering_violation p h n k (Some z) ≡ None → enters n k z ≡ true → HasArguments p n k z
enters_right p h n k z is on = arguments_are p n k z (arguments_right p h n k z
    (sym (ap (λ b. if b then arguments_violation p h n k z else None) on) ∙ is))

-- ---- an entry without a violation keeps what is owed

module _ (M : ℕ) (o : OpeningValue) (q : SpscQueue) (done : List Entry) (e : Entry) (free : violation_of M o q done e ≡ None) where
  -- what an entry of a hart that is in no call owes, which is nothing
  idle_free : is_land e ≡ false → is_in_its_call M o q done (hart_of e) ≡ false
      → idle_violation q e (state_of M (history_of o done) (hart_of e)) (state_of M (history_of o (done ++ e ∷ [])) (hart_of e)) ≡ None
  idle_free act idle =
      sym (ap (λ b. if b || is_in_its_call M o q done (hart_of e) then None
      else idle_violation q e (state_of M (history_of o done) (hart_of e)) (state_of M (history_of o (done ++ e ∷ [])) (hart_of e))) act
      ∙ ap (λ b. if b then None
      else idle_violation q e (state_of M (history_of o done) (hart_of e)) (state_of M (history_of o (done ++ e ∷ [])) (hart_of e))) idle) ∙ free

  parts : is_land e ≡ false → is_in_its_call M o q done (hart_of e) ≡ false
      → WritesNothingTo (buffer q) (access_of e) × (party_violation q (hart_of e) (state_of M (history_of o (done ++ e ∷ [])) (hart_of e)) ≡ None)
  parts act idle =
      let both = neither (option_map (violation.Wrote (hart_of e) (pc_in (state_of M (history_of o done) (hart_of e)))) (written_at (buffer q) (access_of e)))
      (party_violation q (hart_of e) (state_of M (history_of o (done ++ e ∷ [])) (hart_of e))) (idle_free act idle) in (
        writes_nothing (buffer q) (access_of e)
            (unmapped (violation.Wrote (hart_of e) (pc_in (state_of M (history_of o done) (hart_of e)))) (written_at (buffer q) (access_of e)) both.0),
        both.1,
      )

  next_is : (s : HartState) → is_land e ≡ false → state_of M (history_of o done) (hart_of e) ≡ Some s
      → state_of M (history_of o (done ++ e ∷ [])) (hart_of e) ≡ Some (advanced s (number_read e))
  next_is s act at = state_of-mine M (history_of o done) (hart_of e) e refl act ∙ ap (option_map (advance_by e)) at

  sender_obligation : PartyObligation M o q the_sender [] done e
  sender_obligation mine act s at idle =
      let call : is_in_its_call M o q done (hart_of e) ≡ false =
      ap (λ b. if b then is_sender_in_call M o q [] done else (if hart_of e == q.receiver then is_receiver_in_call M o q [] done else false))
      (eq-eqb (hart_of e) q.sender mine) ∙ idle in
      let one = parts act call in
      let entering : entering_violation the_sender (hart_of e) q.send_line q.block (Some (advanced s (number_read e))) ≡ None =
      sym (ap (λ z. entering_violation the_sender (hart_of e) q.send_line q.block z)
      (next_is s act (subst (λ (h : ℕ). state_of M (history_of o done) h ≡ Some s) (sym mine) at)))
      ∙ sym (ap (λ b. if b then entering_violation the_sender (hart_of e) q.send_line q.block (state_of M (history_of o (done ++ e ∷ [])) (hart_of e))
      else (if hart_of e == q.receiver then entering_violation the_receiver (hart_of e) q.receive_line q.block
      (state_of M (history_of o (done ++ e ∷ []))
      (hart_of e)) else None))
      (eq-eqb (hart_of e) q.sender mine)) ∙ one.1 in
      (one.0, enters_right the_sender (hart_of e) q.send_line q.block (advanced s (number_read e)) entering)

  receiver_obligation : q.sender ≢ q.receiver → PartyObligation M o q the_receiver [] done e
  receiver_obligation apart mine act s at idle =
      let no_sender : (hart_of e == q.sender) ≡ false = ne_eqb (hart_of e) q.sender (λ same. apart (sym same ∙ mine)) in
      let call : is_in_its_call M o q done (hart_of e) ≡ false =
      ap (λ b. if b then is_sender_in_call M o q [] done else (if hart_of e == q.receiver then is_receiver_in_call M o q [] done else false)) no_sender
      ∙ ap (λ b. if b then is_receiver_in_call M o q [] done else false) (eq-eqb (hart_of e) q.receiver mine) ∙ idle in
      let one = parts act call in
      let entering : entering_violation the_receiver (hart_of e) q.receive_line q.block (Some (advanced s (number_read e))) ≡ None =
      sym (ap (λ z. entering_violation the_receiver (hart_of e) q.receive_line q.block z)
      (next_is s act (subst (λ (h : ℕ). state_of M (history_of o done) h ≡ Some s) (sym mine) at)))
      ∙ sym (ap (λ b. if b then entering_violation the_sender (hart_of e) q.send_line q.block (state_of M (history_of o (done ++ e ∷ [])) (hart_of e))
      else (if hart_of e == q.receiver then entering_violation the_receiver (hart_of e) q.receive_line q.block
      (state_of M (history_of o (done ++ e ∷ []))
      (hart_of e)) else None))
      no_sender
      ∙ ap (λ b. if b then entering_violation the_receiver (hart_of e) q.receive_line q.block
      (state_of M (history_of o (done ++ e ∷ [])) (hart_of e)) else None)
      (eq-eqb (hart_of e) q.receiver mine)) ∙ one.1 in
      (one.0, enters_right the_receiver (hart_of e) q.receive_line q.block (advanced s (number_read e)) entering)

  others_owe : hart_of e ≢ q.sender → hart_of e ≢ q.receiver → WritesNothingTo (buffer q) (access_of e)
  others_owe not_sender not_receiver = by (is_land e) refl
    where
      idle : is_in_its_call M o q done (hart_of e) ≡ false
      idle = ap (λ b. if b then is_sender_in_call M o q [] done else (if hart_of e == q.receiver then is_receiver_in_call M o q [] done else false))
          (ne_eqb (hart_of e) q.sender not_sender)
          ∙ ap (λ b. if b then is_receiver_in_call M o q [] done else false) (ne_eqb (hart_of e) q.receiver not_receiver)

      by : (b : Bool) → is_land e ≡ b → WritesNothingTo (buffer q) (access_of e)
      by false act = (parts act idle).0
      by true lands = subst (WritesNothingTo (buffer q)) (sym (land_is (access_of e) lands)) tt

  keeps_obligations : q.sender ≢ q.receiver → CallerObligation M o q [] done e
  keeps_obligations apart = record { sender = sender_obligation; receiver = receiver_obligation apart; others = others_owe }

-- ---- and so does each entry of a run without one

one_free : (M : ℕ) (o : OpeningValue) (q : SpscQueue) (front done : List Entry) (e : Entry) (more : List Entry)
    → violation_after M o q front (done ++ e ∷ more) ≡ None → violation_of M o q (front ++ done) e ≡ None
one_free M o q front [] e more free =
    ap (λ ds. violation_of M o q ds e) (append-nil front) ∙ (neither (violation_of M o q front e) (violation_after M o q (front ++ e ∷ []) more) free).0
one_free M o q front (d ∷ done) e more free =
    ap (λ ds. violation_of M o q ds e) (sym (append_assoc front (d ∷ []) done))
    ∙ one_free M o q (front ++ d ∷ []) done e more (neither (violation_of M o q front d) (violation_after M o q (front ++ d ∷ []) (done ++ e ∷ more)) free).1

-- a run from an opening at which the queue can be used keeps all if it has no violation
pub keeps_all : (B M : ℕ) (o : OpeningValue) (l : Located) (es : List Entry) → IsLocated M o l.queue l → WellFormed B M (history_of o es)
    → first_caller_violation M o (spsc_of l) es ≡ None → UsesAsSpscQueue B M o (spsc_of l) [] es
keeps_all B M o l es located run free = record {
  shares = record {
    block = located.block;
    parties = located.parties;
    run = run;
    rest = located.rest;
    sends = located.sends.here;
    receives = located.receives.here;
  };
  owed = λ done e more is. keeps_obligations M o (spsc_of l) done e
      (one_free M o (spsc_of l) [] done e more (ap (first_caller_violation M o (spsc_of l)) (sym is) ∙ free)) located.parties;
}
