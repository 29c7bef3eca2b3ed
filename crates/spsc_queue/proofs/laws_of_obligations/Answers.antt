use Rattle.rv_decode.specs.Meaning.{meaning}
use Rattle.hart.specs.Steps.{need_of, advanced}
use Rattle.step_machine.proofs.Running.{kept-at_opening}
use Rattle.spsc_queue.proofs.Obligations.{obligations_decided}
use Rattle.spsc_queue.proofs.Decided.{obligations_said}
use Rattle.spsc_queue.proofs.Example.{computed, uses, is_call, may_want, is_running, may_act, is_some, may_come, all_come, all_kept}
use Rattle.spsc_queue.proofs.laws_of_obligations.Goals as goal
use Rattle.spsc_queue.proofs.Common.{ℕ, zero, suc, ◌+◌, ◌*◌, ◌%◌, ◌<◌, ◌≤◌, ◌≡◌, ◌≢◌, ◌⊎◌, inl, inr, Bool, true, false, List, [], ◌∷◌, ◌++◌, refl, sym, subst}
use Rattle.spsc_queue.proofs.Common.{arith, words_of, Entry, OpeningValue, history_of, access_of, hart_of, is_land, memory_word, WellFormed, WritesNothingTo}
use Rattle.spsc_queue.proofs.Common.{SpscQueue, party_hart, party_line, buffer, is_in_call, received_words, CallerObligation, SharesQueue, obligations_kept}
use Rattle.spsc_queue.specs.Calls.{Party, the_sender, the_receiver, sent_words}
use Rattle.spsc_queue.specs.ManyQueues.{IsIdle, CallersObligation, UsesManyQueues}
use Rattle.spsc_queue.specs.Listings.{try_send, try_receive}
use Rattle.spsc_queue.specs.TwoQueues.{both_queues, opening_of_two, both_events, entries_of_two}
use Rattle.spsc_queue.proofs.OwnEntries.{land_is}
use Rattle.spsc_queue.proofs.Parties.{owed_of, Mine, Others, whose}
use Rattle.spsc_queue.proofs.Calls.{here, was_here}

-- The run of two queues uses both.

-- what is owed to each queue by itself is what is owed to many
stays_off : (B M : ℕ) (o : OpeningValue) (q : SpscQueue) (before es : List Entry) (c : SharesQueue B M o q before es) (done : List Entry) (e : Entry)
    → CallerObligation M o q before done e → IsIdle M o q (hart_of e) before done → WritesNothingTo (buffer q) (access_of e)
stays_off B M o q before es c done e owes idle = at (is_land e) refl (whose q (hart_of e))
  where
    idle_of : (p : Party) → hart_of e ≡ party_hart q p → is_in_call M o (party_hart q p) (party_line q p) q.block before done ≡ false
    idle_of the_sender mine = idle.sender mine
    idle_of the_receiver mine = idle.receiver mine

    at : (l : Bool) → is_land e ≡ l → Mine q (hart_of e) ⊎ Others q (hart_of e) → WritesNothingTo (buffer q) (access_of e)
    at true land_e is = subst (WritesNothingTo (buffer q)) (sym (land_is (access_of e) land_e)) tt
    at false act (inl m) = (owed_of owes m.party m.hart act (here B M o q before es c m.party done) (was_here B M o q before es c m.party done)
        (idle_of m.party m.hart)).0
    at false act (inr m) = owes.others m.not_sender m.not_receiver

many_owe : (B M : ℕ) (o : OpeningValue) (count : ℕ) (queues : ℕ → SpscQueue) (before es done : List Entry) (e : Entry)
    → ((i : ℕ) → i < count → SharesQueue B M o (queues i) before es) → ((i : ℕ) → i < count → CallerObligation M o (queues i) before done e)
    → CallersObligation M o count queues before done e
many_owe B M o count queues before es done e shares owes = record {
  senders = λ i lt mine act s at idle on. ((owes i lt).sender mine act s at idle).1 on;
  receivers = λ i lt mine act s at idle on. ((owes i lt).receiver mine act s at idle).1 on;
  stays_off = λ idle i lt. stays_off B M o (queues i) before es (shares i lt) done e (owes i lt) (idle i lt);
}

run : WellFormed 4 128 (history_of opening_of_two entries_of_two)
unfolding need_of advanced meaning all_come may_come may_act may_want is_running is_some
run = all_kept 4 128 opening_of_two [] both_events (kept-at_opening 4 128 opening_of_two) refl

clear : (j : ℕ) → j < 2 → memory_word opening_of_two [] (384 + 4 * ((0 + j) % 2)) ≡ 0
clear zero below = refl
clear (suc zero) below = refl
clear (suc (suc j)) below = absurd (omega (arith, below))

shares : (i : ℕ) → i < 2 → SharesQueue 4 128 opening_of_two (both_queues i) [] entries_of_two
shares zero lt = record {
  block = record { aligned = refl; some_slots = omega arith; inside = omega arith; small = omega arith };
  parties = λ e. omega (arith, e);
  run = run;
  rest = record {
    fits = omega arith;
    head = refl;
    tail = refl;
    pending = λ h. refl;
    words = λ kind j below. absurd (omega (arith, below));
    free = λ kind. cc;
    copy = λ a some. absurd (cc);
  };
  sends = record {
    opens = _;
    is = refl;
    code = record { front = 0x04000513 ∷ []; back = _; is = refl; place = refl; small = omega arith };
    registers = refl;
  };
  receives = record {
    opens = _;
    is = refl;
    code = record { front = 0x04000513 ∷ []; back = _; is = refl; place = refl; small = omega arith };
    registers = refl;
  };
}
shares (suc i) lt = record {
  block = record { aligned = refl; some_slots = omega arith; inside = omega arith; small = omega arith };
  parties = λ e. omega (arith, e);
  run = run;
  rest = record {
    fits = omega arith;
    head = refl;
    tail = refl;
    pending = λ h. refl;
    words = λ kind j below. absurd (omega (arith, below));
    free = λ kind j from. clear j;
    copy = λ a some. absurd (cc);
  };
  sends = record {
    opens = _;
    is = refl;
    code = record { front = 0x04000513 ∷ (words_of try_receive ++ 0x10000513 ∷ []); back = []; is = refl; place = refl; small = omega arith };
    registers = refl;
  };
  receives = record {
    opens = _;
    is = refl;
    code = record { front = 0x04000513 ∷ (words_of try_send ++ 0x10000513 ∷ []); back = []; is = refl; place = refl; small = omega arith };
    registers = refl;
  };
}

kept : (i : ℕ) → i < 2 → obligations_kept 128 opening_of_two (both_queues i) [] entries_of_two ≡ true
unfolding need_of advanced meaning
kept zero lt = refl
kept (suc i) lt = refl

pub uses_both : UsesManyQueues 4 128 opening_of_two 2 both_queues [] entries_of_two
uses_both = record {
  shares = shares;
  apart = apart;
  owed = λ done e more is. many_owe 4 128 opening_of_two 2 both_queues [] entries_of_two done e shares
      (λ i lt. obligations_decided 128 opening_of_two (both_queues i) [] entries_of_two (kept i lt) done e more is);
}
  where
    apart : (i j : ℕ) → i < 2 → j < 2 → i ≢ j → ((buffer (both_queues i)).end ≤ (both_queues j).block.base)
        ⊎ ((buffer (both_queues j)).end ≤ (both_queues i).block.base)
    apart zero zero one two other = absurd (other refl)
    apart zero (suc j) one two other = inl (omega arith)
    apart (suc i) zero one two other = inr (omega arith)
    apart (suc i) (suc j) one two other = absurd (omega (arith, one, two, other))

pub passes : (i : ℕ) → i < 2 → (sent_words 128 opening_of_two (both_queues i) [] entries_of_two ≡ 99 ∷ [])
    × (received_words 128 opening_of_two (both_queues i) [] entries_of_two ≡ 99 ∷ [])
unfolding need_of advanced meaning
passes zero lt = (refl, refl)
passes (suc i) lt = (refl, refl)

pub returns-clause-decided : goal.returns-clause-decided
returns-clause-decided c = λ M o q before es kept done e more is. obligations_decided M o q before es kept done e more is

pub returns-clause-complete : goal.returns-clause-complete
returns-clause-complete c = λ B M o q before es uses. obligations_said B M o q before es uses

pub returns-clause-computed : goal.returns-clause-computed
returns-clause-computed c = λ x. (computed x).kept

pub returns-clause-met : goal.returns-clause-met
returns-clause-met c = uses

pub returns-clause-calls : goal.returns-clause-calls
returns-clause-calls c = is_call

pub returns-clause-answers : goal.returns-clause-answers
returns-clause-answers c = λ x. (computed x).answer

pub returns-clause-accessed : goal.returns-clause-accessed
returns-clause-accessed c = λ x. (computed x).accesses

pub returns-clause-sent : goal.returns-clause-sent
returns-clause-sent c = λ x. (computed x).sent

pub returns-clause-received : goal.returns-clause-received
returns-clause-received c = λ x. (computed x).received

pub returns-clause-uses_both : goal.returns-clause-uses_both
returns-clause-uses_both c = uses_both

pub returns-clause-passes : goal.returns-clause-passes
returns-clause-passes c = passes
