-- What is noted of a run, one entry more.
use Rattle.std.proofs.Common.{ℕ, ◌≡◌, ◌==◌, ◌&&◌, ◌||◌, not, ◌+◌, ◌<◌, Bool, true, false, List, [], ◌∷◌, ◌++◌, length, take, get_or, Option, Some, None, refl}
use Rattle.std.proofs.Common.{sym, ap, subst, ◌∙◌, append_assoc, append-nil}
use Rattle.std.specs.Prelude.{if◌then◌else◌, option_map}
use Rattle.std.specs.Option.{option_or}
use Rattle.std.specs.List.{slice_get}
use Rattle.std.proofs.lemmas.Bool.{eqb-true}
use Rattle.std.proofs.lemmas.List.{take_more}
use Rattle.hart.specs.{HartState, advanced}
use Rattle.step_machine.specs.declared.events.Event.{Event}
use Rattle.step_machine.specs.declared.events.Event.TheVariants.{Act, Land}
use Rattle.step_machine.specs.declared.events.Entry.{Entry}
use Rattle.step_machine.specs.declared.events.Entry.TheVariants as entry
use Rattle.step_machine.specs.declared.events.Outcome.{Outcome}
use Rattle.step_machine.specs.declared.events.Outcome.TheVariants as outcome
use Rattle.step_machine.specs.Names.{HartOpeningValue, OpeningValue, History, history_of, with_entry, at_opening, hart_of, is_land, own, number_read, state_of}
use Rattle.step_machine.specs.Names.{Path, Happens, Run}
use Rattle.step_machine.proofs.{state_after, advance_by, state_of-mine, Path-hart, land_other, RunFrom-more}
use Rattle.spsc_queue.specs.Calls.{Block, SpscQueue, is_in_call_after, is_in_call_with, is_in_call, is_sender_in_call, is_receiver_in_call}
use Rattle.spsc_queue.proofs.Completed.{is_in_call-last, same_call, own_call}
use Rattle.spsc_queue.proofs.OwnEntries.{own_is}
use Rattle.callers.specs.{spsc_of, is_in_its_call, idle_violation, violation_of, violation_after, first_caller_violation, IsCallState, AreCallNotes, noted_call}
use Rattle.callers.specs.{found_by, notes_by, IsEventNoted, CallerViolation, Located, CallState, Notes}
use Rattle.callers.proofs.Counting.{count_noted, land_counts}

-- ---- the first violation among entries and one more

or-assoc : (a b c : Option CallerViolation) → option_or (option_or a b) c ≡ option_or a (option_or b c)
or-assoc None b c = refl
or-assoc (Some a) b c = refl

or-none : (a : Option CallerViolation) → option_or a None ≡ a
or-none None = refl
or-none (Some a) = refl

after_more : (M : ℕ) (o : OpeningValue) (q : SpscQueue) (front es : List Entry) (e : Entry)
    → violation_after M o q front (es ++ e ∷ []) ≡ option_or (violation_after M o q front es) (violation_of M o q (front ++ es) e)
after_more M o q front [] e = or-none (violation_of M o q front e) ∙ ap (λ ds. violation_of M o q ds e) (sym (append-nil front))
after_more M o q front (d ∷ es) e =
    ap (option_or (violation_of M o q front d)) (after_more M o q (front ++ d ∷ []) es e
    ∙ ap (λ ds. option_or (violation_after M o q (front ++ d ∷ []) es) (violation_of M o q ds e)) (append_assoc front (d ∷ []) es))
    ∙ sym (or-assoc (violation_of M o q front d) (violation_after M o q (front ++ d ∷ []) es) (violation_of M o q (front ++ d ∷ es) e))

first_more : (M : ℕ) (o : OpeningValue) (q : SpscQueue) (es : List Entry) (e : Entry)
    → first_caller_violation M o q (es ++ e ∷ []) ≡ option_or (first_caller_violation M o q es) (violation_of M o q es e)
first_more M o q es e = after_more M o q [] es e

-- ---- one entry more

call_more : (M : ℕ) (o : OpeningValue) (p n : ℕ) (k : Block) (es : List Entry) (e : Entry)
    → is_in_call M o p n k [] (es ++ e ∷ []) ≡ is_in_call_with M o p n k (is_in_call M o p n k [] es) es e
call_more M o p n k es e = is_in_call-last M o p n k false [] es e

-- a hart's own entry, by which it goes from state s to its next state
module _ (M : ℕ) (o : OpeningValue) (es : List Entry) (e : Entry) (act : is_land e ≡ false) (s : HartState)
    (before : state_of M (history_of o es) (hart_of e) ≡ Some s) where
  party_noted : (p n : ℕ) (k : Block) (b : Bool) → b ≡ is_in_call M o p n k [] es
      → (if hart_of e == p then is_in_call_after n k b s (advanced s (number_read e)) else b) ≡ is_in_call M o p n k [] (es ++ e ∷ [])
  party_noted p n k b is = by (hart_of e == p) refl
      ∙ ap (λ c. is_in_call_with M o p n k c es e) is ∙ sym (call_more M o p n k es e)
    where
      by : (c : Bool) → (hart_of e == p) ≡ c
          → (if c then is_in_call_after n k b s (advanced s (number_read e)) else b) ≡ is_in_call_with M o p n k b es e
      by true same = let mine = eqb-true (hart_of e) p same in
          own_call M o p n k b es e s (own_is p e mine act) (subst (λ (g : ℕ). state_of M (history_of o es) g ≡ Some s) mine before)
      by false other = same_call M o p n k b es e (ap (λ c. c && not (is_land e)) other)

  found_noted : (q : SpscQueue) (notes : Notes) → AreCallNotes M o q es notes
      → state_of M (history_of o (es ++ e ∷ [])) (hart_of e) ≡ Some (advanced s (number_read e))
      → found_by q notes e s (advanced s (number_read e)) ≡ first_caller_violation M o q (es ++ e ∷ [])
  found_noted q notes are after =
      ap (λ f. option_or f (if noted_call q notes (hart_of e) then None else idle_violation q e (Some s) (Some (advanced s (number_read e))))) are.found
      ∙ ap (option_or (first_caller_violation M o q es)) (sym violation_is) ∙ sym (first_more M o q es e)
    where
      call_is : is_in_its_call M o q es (hart_of e) ≡ noted_call q notes (hart_of e)
      call_is = ap (λ b. if hart_of e == q.sender then b else (if hart_of e == q.receiver then is_receiver_in_call M o q [] es else false)) (sym are.sending)
          ∙ ap (λ b. if hart_of e == q.sender then notes.sending else (if hart_of e == q.receiver then b else false)) (sym are.receiving)

      violation_is : violation_of M o q es e ≡ (if noted_call q notes (hart_of e) then None
          else idle_violation q e (Some s) (Some (advanced s (number_read e))))
      violation_is = ap (λ b. if b || is_in_its_call M o q es (hart_of e) then None
          else idle_violation q e (state_of M (history_of o es) (hart_of e)) (state_of M (history_of o (es ++ e ∷ [])) (hart_of e))) act
          ∙ ap (λ b. if b then None else idle_violation q e (state_of M (history_of o es) (hart_of e))
          (state_of M (history_of o (es ++ e ∷ [])) (hart_of e))) call_is
          ∙ ap (λ x. if noted_call q notes (hart_of e) then None else idle_violation q e x (state_of M (history_of o (es ++ e ∷ [])) (hart_of e))) before
          ∙ ap (λ x. if noted_call q notes (hart_of e) then None else idle_violation q e (Some s) x) after

  entry_noted : (q : SpscQueue) (notes : Notes) → AreCallNotes M o q es notes
      → state_of M (history_of o (es ++ e ∷ [])) (hart_of e) ≡ Some (advanced s (number_read e))
      → AreCallNotes M o q (es ++ e ∷ []) (notes_by q notes e s (advanced s (number_read e)))
  entry_noted q notes are after = record {
    found = found_noted q notes are after;
    sending = party_noted q.sender q.send_line q.block notes.sending are.sending;
    receiving = party_noted q.receiver q.receive_line q.block notes.receiving are.receiving;
    calls = record {
      sent = count_noted M o es e act s before q.sender q.send_line q.block 1 notes.sending notes.calls.sent are.sending are.calls.sent;
      full = count_noted M o es e act s before q.sender q.send_line q.block 0 notes.sending notes.calls.full are.sending are.calls.full;
      received = count_noted M o es e act s before q.receiver q.receive_line q.block 1 notes.receiving notes.calls.received are.receiving
          are.calls.received;
      empty = count_noted M o es e act s before q.receiver q.receive_line q.block 0 notes.receiving notes.calls.empty are.receiving are.calls.empty;
    };
  }

-- the state of a hart that has a path
record Standing (M : ℕ) (t : History) (h : ℕ) : Type 0 where
  state : HartState
  is : state_of M t h ≡ Some state

standing : (M : ℕ) (t : History) (h : ℕ) (e : Entry) → Path M (with_entry t e) h → Standing M t h
standing M t h e path = by (slice_get t.opening.harts h) refl
  where
    by : (so : Option HartOpeningValue) → slice_get t.opening.harts h ≡ so → Standing M t h
    by None none = absurd (Path-hart M (with_entry t e) h path none)
    by (Some opens) some = record { state = state_after M (own h t.entries) opens; is = ap (option_map (state_after M (own h t.entries))) some }

pub act_noted : (B M : ℕ) (l : Located) (t u : History) (h : ℕ) (e : Entry) (notes new : Notes) (z : HartState) (was seen : CallState)
    → Happens B M t (Act h) (outcome.Did e) u → ((s : HartState) → state_of M t h ≡ Some s → IsCallState s was) → state_of M u h ≡ Some z
    → IsCallState z seen → ((s y : HartState) → IsCallState s was → IsCallState y seen → new ≡ notes_by (spsc_of l) notes e s y)
    → IsEventNoted B M l (Act h) t notes u new
act_noted B M l t u h e notes new z was seen happens place stands is_seen noted = record {
  outcome = outcome.Did e;
  happens = happens;
  noted = λ are. subst (λ (v : History). AreCallNotes M t.opening (spsc_of l) v.entries new) (sym happens.after)
      (subst (AreCallNotes M t.opening (spsc_of l) (t.entries ++ e ∷ [])) (sym (is_new))
      (entry_noted M t.opening t.entries e happens.for_event.1 s before (spsc_of l) notes are after));
}
  where
    mine : hart_of e ≡ h
    mine = happens.for_event.0

    here : Standing M t (hart_of e)
    here = standing M t (hart_of e) e happens.follows.path

    s : HartState
    s = here.state

    before : state_of M t (hart_of e) ≡ Some s
    before = here.is

    after : state_of M (with_entry t e) (hart_of e) ≡ Some (advanced s (number_read e))
    after = state_of-mine M t (hart_of e) e refl happens.for_event.1 ∙ ap (option_map (advance_by e)) before

    z_is : z ≡ advanced s (number_read e)
    z_is = let both : Some z ≡ Some (advanced s (number_read e)) = sym stands ∙ ap (λ (v : History). state_of M v h) happens.after
        ∙ ap (state_of M (with_entry t e)) (sym mine) ∙ after in cc

    was_is : IsCallState s was
    was_is = place s (subst (λ (g : ℕ). state_of M t g ≡ Some s) mine before)

    is_new : new ≡ notes_by (spsc_of l) notes e s (advanced s (number_read e))
    is_new = noted s (advanced s (number_read e)) was_is (subst (λ (y : HartState). IsCallState y seen) z_is is_seen)

-- a landing, which is no entry of a party's own
land_keeps : (M : ℕ) (o : OpeningValue) (q : SpscQueue) (es : List Entry) (h : ℕ) (notes : Notes) → AreCallNotes M o q es notes
    → AreCallNotes M o q (es ++ entry.Land h ∷ []) notes
land_keeps M o q es h notes are = record {
  calls = land_counts M o q es h notes.calls are.calls;
  found = are.found ∙ sym (or-none (first_caller_violation M o q es)) ∙ sym (first_more M o q es (entry.Land h));
  sending = are.sending ∙ same_call M o q.sender q.send_line q.block (is_sender_in_call M o q [] es) es (entry.Land h) (land_other q.sender (entry.Land h) refl)
      ∙ sym (call_more M o q.sender q.send_line q.block es (entry.Land h));
  receiving = are.receiving
      ∙ same_call M o q.receiver q.receive_line q.block (is_receiver_in_call M o q [] es) es (entry.Land h) (land_other q.receiver (entry.Land h) refl)
      ∙ sym (call_more M o q.receiver q.receive_line q.block es (entry.Land h));
}

pub land_noted : (B M : ℕ) (l : Located) (t u : History) (h : ℕ) (out : Outcome) (notes : Notes) → Happens B M t (Land h) out u
    → IsEventNoted B M l (Land h) t notes u notes
land_noted B M l t u h out notes happens = record { outcome = out; happens = happens; noted = by out happens }
  where
    same : (v : History) → v ≡ t → AreCallNotes M t.opening (spsc_of l) t.entries notes → AreCallNotes M t.opening (spsc_of l) v.entries notes
    same v is are = subst (λ (w : History). AreCallNotes M t.opening (spsc_of l) w.entries notes) (sym is) are

    by : (x : Outcome) → Happens B M t (Land h) x u → AreCallNotes M t.opening (spsc_of l) t.entries notes
        → AreCallNotes M t.opening (spsc_of l) u.entries notes
    by (outcome.Did e) did are = subst (λ (v : History). AreCallNotes M t.opening (spsc_of l) v.entries notes)
        (sym (did.after ∙ ap (with_entry t) did.for_event)) (land_keeps M t.opening (spsc_of l) t.entries h notes are)
    by outcome.Waited did are = same u did.after are
    by outcome.NothingToLand did are = same u did.after are
    by outcome.Over did are = same u did.after are
    by outcome.NoHart did are = same u did.after are

-- ---- a run of events

-- one event of a list more
pub run_more : (B M : ℕ) (o : OpeningValue) (events : List Event) (i : ℕ) (none : Event) (l : Located) (t u : History) (notes new : Notes) → i < length events
    → Run B M o (take i events) t → IsEventNoted B M l (get_or events i none) t notes u new → Run B M o (take (i + 1) events) u
run_more B M o events i none l t u notes new within run noted =
    subst (λ (evs : List Event). Run B M o evs u) (sym (take_more events i none within))
    (RunFrom-more B M (at_opening o) (take i events) t (get_or events i none) noted.outcome u run noted.happens)

pub notes_more : (B M : ℕ) (o : OpeningValue) (l : Located) (ev : Event) (t u : History) (notes new : Notes) → t.opening ≡ o
    → AreCallNotes M o (spsc_of l) t.entries notes → IsEventNoted B M l ev t notes u new → AreCallNotes M o (spsc_of l) u.entries new
notes_more B M o l ev t u notes new opens are noted =
    subst (λ (x : OpeningValue). AreCallNotes M x (spsc_of l) u.entries new) opens
    (noted.noted (subst (λ (x : OpeningValue). AreCallNotes M x (spsc_of l) t.entries notes) (sym opens) are))
