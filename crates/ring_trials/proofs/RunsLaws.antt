-- The totals of runs, one more, and those of two parts together.
use Rattle.std.proofs.Common.{ℕ, suc, ◌≡◌, ◌+◌, ◌<◌, ◌≤◌, inl, inr, List, [], ◌∷◌, ◌++◌, length, take, set, max, Bool, true, false, Option, Some, None, refl}
use Rattle.std.proofs.Common.{sym, ap, subst, ◌∙◌, arith, append-nil, drop, drop_of_length-le}
use Rattle.std.specs.Prelude.{if◌then◌else◌}
use Rattle.std.specs.List.{slice_get}
use Rattle.std.proofs.Math.Nat.{eq-or-lt_of_le}
use Rattle.std.proofs.Math.Seq.{take-length}
use Rattle.std.proofs.lemmas.Bool.Decides.{nat_tests}
use Rattle.std.proofs.lemmas.Option.{slice_get_within}
use Rattle.step_machine.specs.Names.{History, at_opening, reported}
use Rattle.step_machine.proofs.{run-one, slice_get-set_same, slice_get-set_other}
use Rattle.step_machine.specs.declared.events.Event.{Event}
use Rattle.poll_close.specs.{taken, is_closed, first_violation, AreNotes}
use Rattle.poll_close.specs.declared.clean.Violation.{Violation}
use Rattle.poll_close.specs.declared.clean.Share.{Share}
use Rattle.poll_close.proofs.ViolationLaws.{first_law}
use Rattle.judged_runs.proofs.Histories.{runs_both, runs_count}
use Rattle.ring_trials.specs.UserChannel.{lists_of, layout_from, start_of}
use Rattle.ring_trials.specs.declared.user_channel.UserChannel.{UserChannel}
use Rattle.ring_trials.specs.declared.runs.Total.{Total}
use Rattle.ring_trials.specs.Trials.{most_of, closed_in, AreTotals, AreTotalsOf, IsChannelJudged, IsClean, HasViolation}

most_last : (i : ℕ) (ts : List History) (t : History) → most_of i (ts ++ t ∷ []) ≡ max (most_of i ts) (length (taken (reported 0 t.entries) i))
most_last i [] t = omega arith
most_last i (u ∷ ts) t = omega (arith, most_last i ts t)

shifted : (a n m : ℕ) → n ≡ m + 1 → a + n ≡ a + m + 1
shifted a n m is = omega arith

closed_last : (i : ℕ) (ts : List History) (t : History) (b : Bool) → b ≡ is_closed (reported 0 t.entries) i
    → closed_in i (ts ++ t ∷ []) ≡ (if b then closed_in i ts + 1 else closed_in i ts)
closed_last i [] t true is = grind (arith, nat_tests)
closed_last i [] t false is = grind (arith, nat_tests)
closed_last i (u ∷ ts) t true is = shifted (if is_closed (reported 0 u.entries) i then 1 else 0) (closed_in i (ts ++ t ∷ [])) (closed_in i ts)
    (closed_last i ts t true is)
closed_last i (u ∷ ts) t false is = ap (λ n. (if is_closed (reported 0 u.entries) i then 1 else 0) + n) (closed_last i ts t false is)

at_most_one : (b : Bool) (n m : ℕ) → n ≤ m → (if b then 1 else 0) + n ≤ suc m
at_most_one true n m few = omega arith
at_most_one false n m few = omega arith

pub closed_few : (i : ℕ) (ts : List History) → closed_in i ts ≤ length ts
closed_few i [] = omega arith
closed_few i (u ∷ ts) = at_most_one (is_closed (reported 0 u.entries) i) (closed_in i ts) (length ts) (closed_few i ts)

-- A list of totals was gone through up to place i: what stands there was taken in at each place before, by this relation of
-- the total, of what is taken in and of the total after.
pub record TakenIn (X : Type 0) (Adds : Total → X → Total → Type 0) (old : List Total) (more : List X) (i : ℕ) (new : List Total) : Type 0 where
  pub later : (k : ℕ) (s : Total) → i ≤ k → slice_get new k ≡ Some s → slice_get old k ≡ Some s
  pub before : (k : ℕ) (s : Total) → k < i → slice_get new k ≡ Some s
      → (o : Total) × (e : X) × (slice_get old k ≡ Some o) × (slice_get more k ≡ Some e) × Adds o e s
  pub count : length new ≡ length old

module _ (X : Type 0) (Adds : Total → X → Total → Type 0) (old : List Total) (more : List X) where
  pub taken_none : TakenIn X Adds old more 0 old
  taken_none = record { later = λ k s some is. is; before = λ k s none is. absurd (omega arith); count = refl }

  pub taken_more : (i : ℕ) (now : List Total) (total new : Total) (one : X) (next : List Total)
      → TakenIn X Adds old more i now → slice_get now i ≡ Some total → slice_get more i ≡ Some one → Adds total one new
      → next ≡ set now i new → length next ≡ length now → TakenIn X Adds old more (i + 1) next
  taken_more i now total new one next taken here mine adds is count = record {
    later = λ k s after at. taken.later k s (omega arith)
        (sym (slice_get-set_other now i k new (λ same. absurd (omega arith))) ∙ ap (λ xs. slice_get xs k) (sym is) ∙ at);
    before = λ k s below at. elim (eq-or-lt_of_le {n = k} {m = i} (omega arith)) [
      | inl same ↦ (
        total,
        one,
        taken.later k total (omega arith) (ap (slice_get now) same ∙ here),
        ap (slice_get more) same ∙ mine,
        (let that : new ≡ s = let both : Some new ≡ Some s = sym (slice_get-set_same now i new (slice_get_within now i total here))
            ∙ ap (λ xs. slice_get xs i) (sym is) ∙ ap (slice_get next) (sym same) ∙ at in cc in
            subst (Adds total one) that adds),
      )
      | inr less ↦ taken.before k s less
          (sym (slice_get-set_other now i k new (λ same. absurd (omega arith))) ∙ ap (λ xs. slice_get xs k) (sym is) ∙ at)
    ];
    count = count ∙ taken.count;
  }

-- what is noted of one run more is taken into a sender's total
pub record OneMore (old : Total) (share : Share) (new : Total) : Type 0 where
  pub most : new.most ≡ max old.most share.taken
  pub closed : new.closed ≡ (if share.closed then old.closed + 1 else old.closed)

pub totals_more : (ts : List History) (t : History) (old new : List Total) (shares : List Share) (i : ℕ) → i ≡ length new → AreTotals ts old
    → AreNotes (reported 0 t.entries) shares → TakenIn Share OneMore old shares i new → AreTotals (ts ++ t ∷ []) new
totals_more ts t old new shares i all totals notes taken = record {
  most = λ k s at. let one = taken.before k s (omega (arith, slice_get_within new k s at)) at in
      one.4.most ∙ ap (λ m. max m one.1.taken) (totals.most k one.0 one.2) ∙ ap (max (most_of k ts)) (notes.taken k one.1 one.3)
      ∙ sym (most_last k ts t);
  closed = λ k s at. let one = taken.before k s (omega (arith, slice_get_within new k s at)) at in
      one.4.closed ∙ ap (λ m. if one.1.closed then m + 1 else m) (totals.closed k one.0 one.2)
      ∙ sym (closed_last k ts t one.1.closed (notes.closed k one.1 one.3));
}

-- ---- their totals

most_both : (i : ℕ) (ts us : List History) → most_of i (ts ++ us) ≡ max (most_of i ts) (most_of i us)
most_both i [] us = omega arith
most_both i (t ∷ ts) us = omega (arith, most_both i ts us)

sum_first : (a b c d : ℕ) → b ≡ c + d → a + b ≡ a + c + d
sum_first a b c d is = omega arith

closed_both : (i : ℕ) (ts us : List History) → closed_in i (ts ++ us) ≡ closed_in i ts + closed_in i us
closed_both i [] us = omega arith
closed_both i (t ∷ ts) us =
    sum_first (if is_closed (reported 0 t.entries) i then 1 else 0) (closed_in i (ts ++ us)) (closed_in i ts) (closed_in i us) (closed_both i ts us)

-- a sender's total of later runs is taken into that of those before
pub record Both (old later new : Total) : Type 0 where
  pub most : new.most ≡ max old.most later.most
  pub closed : new.closed ≡ old.closed + later.closed

pub totals_both : (ts us : List History) (old later new : List Total) (i : ℕ) → i ≡ length new → AreTotals ts old → AreTotals us later
    → TakenIn Total Both old later i new → AreTotals (ts ++ us) new
totals_both ts us old later new i all first second taken = record {
  most = λ k t at. let one = taken.before k t (omega (arith, slice_get_within new k t at)) at in
      one.4.most ∙ ap (λ m. max m one.1.most) (first.most k one.0 one.2) ∙ ap (max (most_of k ts)) (second.most k one.1 one.3) ∙ sym (most_both k ts us);
  closed = λ k t at. let one = taken.before k t (omega (arith, slice_get_within new k t at)) at in
      one.4.closed ∙ ap (λ m. m + one.1.closed) (first.closed k one.0 one.2) ∙ ap (λ m. closed_in k ts + m) (second.closed k one.1 one.3)
      ∙ sym (closed_both k ts us);
}

-- ---- the totals of runs of lists of events

module _ (B M : ℕ) (channel : UserChannel) where
  pub none_counted : (totals : List Total) → AreTotals [] totals → length totals ≡ length (lists_of channel) → AreTotalsOf B M channel [] totals
  none_counted totals are count = record { histories = []; runs = tt; totals_are = are; count = count }

  pub one_counted : (all : List (List Event)) (events : List Event) (old new : List Total) (shares : List Share) → AreTotalsOf B M channel all old
      → IsChannelJudged B M channel events None shares
      → ((ts : List History) (t : History) → AreTotals ts old → AreNotes (reported 0 t.entries) shares → AreTotals (ts ++ t ∷ []) new)
      → length new ≡ length old → AreTotalsOf B M channel (all ++ events ∷ []) new
  one_counted all events old new shares counted judged add same = record {
    histories = counted.histories ++ judged.history ∷ [];
    runs = runs_both B M (start_of channel) all (events ∷ []) counted.histories (judged.history ∷ []) counted.runs (judged.run, tt);
    totals_are = add counted.histories judged.history counted.totals_are (judged.noted.notes refl);
    count = same ∙ counted.count;
  }

  pub both_counted : (all more : List (List Event)) (old later new : List Total) → AreTotalsOf B M channel all old → AreTotalsOf B M channel more later
      → ((ts us : List History) → AreTotals ts old → AreTotals us later → AreTotals (ts ++ us) new) → length new ≡ length old
      → AreTotalsOf B M channel (all ++ more) new
  both_counted all more old later new counted others add same = record {
    histories = counted.histories ++ others.histories;
    runs = runs_both B M (start_of channel) all more counted.histories others.histories counted.runs others.runs;
    totals_are = add counted.histories others.histories counted.totals_are others.totals_are;
    count = same ∙ counted.count;
  }

  -- a sender was closed in no more runs than there are
  pub few_counted : (n k : ℕ) (totals : List Total) (one : Total) → (all : List (List Event)) × (length all ≤ n) × AreTotalsOf B M channel all totals
      → slice_get totals k ≡ Some one → one.closed ≤ n
  few_counted n k totals one (all, few, counted) at = omega (
    arith,
    counted.totals_are.closed k one at,
    closed_few k counted.histories,
    runs_count B M (start_of channel) all counted.histories counted.runs,
    few,
  )

  -- a run has one first violation, and a clean one none
  pub one_violation : (events : List Event) (found other : Violation) → HasViolation B M channel events found
      → HasViolation B M channel events other → found ≡ other
  one_violation events found other has also =
      let same : has.history ≡ also.history = run-one B M (at_opening (start_of channel)) events has.history also.history has.run also.run in
      let both : Some found ≡ Some other =
      sym has.breaks ∙ ap (λ (t : History). first_violation (layout_from channel) (lists_of channel) t.entries) same ∙ also.breaks in cc

  pub clean_has_none : (events : List Event) (found : Violation) → IsClean B M channel events → HasViolation B M channel events found → ⊥
  clean_has_none events found clean has =
      let same : clean.history ≡ has.history = run-one B M (at_opening (start_of channel)) events clean.history has.history clean.run has.run in
      let none = (first_law (layout_from channel) (lists_of channel) clean.history.entries).1 clean.kept in
      let some = ap (λ (t : History). first_violation (layout_from channel) (lists_of channel) t.entries) same ∙ has.breaks in
      absurd (cc)

  -- what was judged of a run
  pub judged_clean : (events : List Event) (found : Option Violation) (shares : List Share) → IsChannelJudged B M channel events found shares → found ≡ None
      → IsClean B M channel events
  judged_clean events found shares judged none = record {
    history = judged.history;
    run = judged.run;
    kept = (first_law (layout_from channel) (lists_of channel) judged.history.entries).0 (sym judged.noted.violation ∙ none);
  }

  pub judged_violation : (events : List Event) (found : Option Violation) (shares : List Share) → IsChannelJudged B M channel events found shares
      → (violation : Violation) → found ≡ Some violation → HasViolation B M channel events violation
  judged_violation events found shares judged violation some =
      record { history = judged.history; run = judged.run; breaks = sym judged.noted.violation ∙ some }

-- a slice that was written over as a whole
pub whole_again : {X : Type 0} (n : ℕ) (new old : List X) → length new ≡ length old → n ≡ length old → take n (new ++ drop (length new) old) ≡ new
whole_again n new old same whole =
    let none : drop (length new) old ≡ [] = drop_of_length-le old (omega (arith, same)) in
    let all : new ++ drop (length new) old ≡ new = ap (λ xs. new ++ xs) none ∙ append-nil new in
    ap (take n) all ∙ ap (λ k. take k new) (whole ∙ sym same) ∙ take-length new
