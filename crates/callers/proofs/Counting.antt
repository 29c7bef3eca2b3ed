-- How many calls returned, one entry more, and what runs count to, one more and those of two parts together.
use Rattle.std.proofs.Common.{ℕ, ◌≡◌, ◌==◌, ◌&&◌, not, ◌+◌, ◌≤◌, min, inl, inr, Bool, true, false, List, [], ◌∷◌, ◌++◌, length, Some, refl, sym, ap, subst, ◌∙◌}
use Rattle.std.proofs.Common.{arith, append_assoc, append-nil, add_assoc}
use Rattle.std.specs.Prelude.{if◌then◌else◌}
use Rattle.std.proofs.lemmas.Bool.{eqb-true}
use Rattle.hart.specs.State.{HartState}
use Rattle.step_machine.specs.declared.events.Entry.{Entry}
use Rattle.step_machine.specs.declared.events.Entry.TheVariants as entry
use Rattle.step_machine.specs.declared.events.Event.{Event}
use Rattle.step_machine.specs.Names.{OpeningValue, History, history_of, hart_of, is_land, is_own, state_of}
use Rattle.step_machine.proofs.Placing.{land_other}
use Rattle.litmus.specs.{IsVerdict, LitmusTest}
use Rattle.litmus.specs.declared.verdict.Verdict.{Verdict}
use Rattle.litmus.specs.declared.verdict.Verdict.TheVariants.{Holds, Fails, Unfinished}
use Rattle.spsc_queue.specs.Calls.{Block, SpscQueue, is_in_call, is_in_call_from, is_in_call_with}
use Rattle.spsc_queue.proofs.OwnEntries.{own_is}
use Rattle.judged_runs.proofs.Histories.{capped_both, runs_both, runs_count, total_both}
use Rattle.callers.specs.{spsc_of, returns_now, returns_in, returned_by, returned_from, returned, sends, receives, AreCalls, HasCalls, HaveUnfinished}
use Rattle.callers.specs.{AreTotalCalls, AreCountsOf, calls_both, unfinished_by, counted_by, Calls, Located}
use Rattle.judged_runs.specs.Telling.{MOST}
use Rattle.callers.specs.declared.counts.Counts.{Counts}

-- ---- one entry more

module _ (M : ℕ) (o : OpeningValue) (h n : ℕ) (k : Block) (number : ℕ) where
  returned-last : (b : Bool) (front es : List Entry) (e : Entry) → returned_from M o h n k number b front (es ++ e ∷ [])
      ≡ returned_from M o h n k number b front es + returned_by M o h n number (is_in_call_from M o h n k b front es) (front ++ es) e
  returned-last b front [] e =
      let same : returned_by M o h n number b front e ≡ returned_by M o h n number b (front ++ []) e =
      ap (λ xs. returned_by M o h n number b xs e) (sym (append-nil front)) in omega (arith, same)
  returned-last b front (d ∷ es) e =
      ap (λ m. returned_by M o h n number b front d + m) (returned-last (is_in_call_with M o h n k b front d) (front ++ d ∷ []) es e
      ∙ ap (λ xs. returned_from M o h n k number (is_in_call_with M o h n k b front d) (front ++ d ∷ []) es
      + returned_by M o h n number (is_in_call_from M o h n k (is_in_call_with M o h n k b front d) (front ++ d ∷ []) es) xs e)
      (append_assoc front (d ∷ []) es))
      ∙ sym (add_assoc (returned_by M o h n number b front d) (returned_from M o h n k number (is_in_call_with M o h n k b front d) (front ++ d ∷ []) es)
      (returned_by M o h n number (is_in_call_from M o h n k (is_in_call_with M o h n k b front d) (front ++ d ∷ []) es) (front ++ (d ∷ es)) e))

  -- an entry that isn't the hart's own
  returned-other : (es : List Entry) (e : Entry) → is_own h e ≡ false → returned M o h n k number (es ++ e ∷ []) ≡ returned M o h n k number es
  returned-other es e off =
      let none : returned_by M o h n number (is_in_call M o h n k [] es) es e ≡ 0 =
      ap (λ c. if c && returns_in n number (is_in_call M o h n k [] es) (state_of M (history_of o es) h) then 1 else 0) off in
      returned-last false [] es e ∙ ap (λ m. returned M o h n k number es + m) none ∙ (omega arith)

bumped : (r : Bool) (count old : ℕ) → count ≡ min old MOST → (if r then min (count + 1) MOST else count) ≡ min (old + (if r then 1 else 0)) MOST
bumped true count old is = omega (arith, is)
bumped false count old is = omega (arith, is)

module _ (M : ℕ) (o : OpeningValue) (es : List Entry) (e : Entry) (act : is_land e ≡ false) (s : HartState)
    (before : state_of M (history_of o es) (hart_of e) ≡ Some s) where
  pub count_noted : (p n : ℕ) (k : Block) (number : ℕ) (b : Bool) (count : ℕ) → b ≡ is_in_call M o p n k [] es
      → count ≡ min (returned M o p n k number es) MOST
      → counted_by (hart_of e == p) n number b s count ≡ min (returned M o p n k number (es ++ e ∷ [])) MOST
  count_noted p n k number b count is so_far = by (hart_of e == p) refl
    where
      by : (c : Bool) → (hart_of e == p) ≡ c → (if c && returns_now n number b s then min (count + 1) MOST else count)
          ≡ min (returned M o p n k number (es ++ e ∷ [])) MOST
      by true same =
          let mine = eqb-true (hart_of e) p same in
          let at : state_of M (history_of o es) p ≡ Some s = subst (λ (g : ℕ). state_of M (history_of o es) g ≡ Some s) mine before in
          let one : returned_by M o p n number (is_in_call M o p n k [] es) es e ≡ (if returns_now n number b s then 1 else 0) =
          ap (λ c. if c && returns_in n number (is_in_call M o p n k [] es) (state_of M (history_of o es) p) then 1 else 0) (own_is p e mine act)
          ∙ ap (λ x. if returns_in n number (is_in_call M o p n k [] es) x then 1 else 0) at
          ∙ ap (λ c. if returns_now n number c s then 1 else 0) (sym is) in
          bumped (returns_now n number b s) count (returned M o p n k number es) so_far
          ∙ ap (λ m. min (returned M o p n k number es + m) MOST) (sym one)
          ∙ ap (λ m. min m MOST) (sym (returned-last M o p n k number false [] es e))
      by false other =
          so_far ∙ ap (λ m. min m MOST) (sym (returned-other M o p n k number es e (ap (λ c. c && not (is_land e)) other)))

pub land_counts : (M : ℕ) (o : OpeningValue) (q : SpscQueue) (es : List Entry) (h : ℕ) (calls : Calls) → AreCalls M o q es calls
    → AreCalls M o q (es ++ entry.Land h ∷ []) calls
land_counts M o q es h calls are = record {
  sent = are.sent ∙ ap (λ m. min m MOST)
      (sym (returned-other M o q.sender q.send_line q.block 1 es (entry.Land h) (land_other q.sender (entry.Land h) refl)));
  full = are.full ∙ ap (λ m. min m MOST)
      (sym (returned-other M o q.sender q.send_line q.block 0 es (entry.Land h) (land_other q.sender (entry.Land h) refl)));
  received = are.received ∙ ap (λ m. min m MOST)
      (sym (returned-other M o q.receiver q.receive_line q.block 1 es (entry.Land h) (land_other q.receiver (entry.Land h) refl)));
  empty = are.empty ∙ ap (λ m. min m MOST)
      (sym (returned-other M o q.receiver q.receive_line q.block 0 es (entry.Land h) (land_other q.receiver (entry.Land h) refl)));
}

-- ---- runs

module _ (M : ℕ) (o : OpeningValue) (q : SpscQueue) where
  calls_of_one : (t : History) (calls : Calls) → AreCalls M o q t.entries calls → AreTotalCalls M o q (t ∷ []) calls
  calls_of_one t calls are = record {
    sent = are.sent ∙ ap (λ m. min m MOST) (alone (sends M o q 1 t.entries));
    full = are.full ∙ ap (λ m. min m MOST) (alone (sends M o q 0 t.entries));
    received = are.received ∙ ap (λ m. min m MOST) (alone (receives M o q 1 t.entries));
    empty = are.empty ∙ ap (λ m. min m MOST) (alone (receives M o q 0 t.entries));
  }
    where
      alone : (n : ℕ) → n ≡ n + 0
      alone n = omega arith

  calls_of_both : (ts us : List History) (calls more : Calls) → AreTotalCalls M o q ts calls → AreTotalCalls M o q us more
      → AreTotalCalls M o q (ts ++ us) (calls_both calls more)
  calls_of_both ts us calls more are others = record {
    sent = capped_both calls.sent more.sent _ _ are.sent others.sent ∙ ap (λ m. min m MOST) (sym (total_both (λ t. sends M o q 1 t.entries) ts us));
    full = capped_both calls.full more.full _ _ are.full others.full ∙ ap (λ m. min m MOST) (sym (total_both (λ t. sends M o q 0 t.entries) ts us));
    received = capped_both calls.received more.received _ _ are.received others.received
        ∙ ap (λ m. min m MOST) (sym (total_both (λ t. receives M o q 1 t.entries) ts us));
    empty = capped_both calls.empty more.empty _ _ are.empty others.empty
        ∙ ap (λ m. min m MOST) (sym (total_both (λ t. receives M o q 0 t.entries) ts us));
  }

module _ (M : ℕ) where
  unfinished_both : (ts us : List History) (n m : ℕ) → HaveUnfinished M ts n → HaveUnfinished M us m → HaveUnfinished M (ts ++ us) (n + m)
  unfinished_both [] us n m none more = let same : m ≡ n + m = omega (arith, none) in subst (HaveUnfinished M us) same more
  unfinished_both (t ∷ ts) us n m (inl rest) more = inl (rest.0, unfinished_both ts us n m rest.1 more)
  unfinished_both (t ∷ ts) us n m (inr rest) more =
      inr (rest.0, rest.1 + m, omega (arith, rest.2), unfinished_both ts us rest.1 m rest.3 more)

  unfinished_few : (ts : List History) (n : ℕ) → HaveUnfinished M ts n → n ≤ length ts
  unfinished_few [] n none = omega (arith, none)
  unfinished_few (t ∷ ts) n (inl rest) = omega (arith, unfinished_few ts n rest.1)
  unfinished_few (t ∷ ts) n (inr rest) = omega (arith, rest.2, unfinished_few ts rest.1 rest.3)

-- what lists of events count to
module _ (B M : ℕ) (o : OpeningValue) (l : Located) where
  pub none_counted : (calls : Calls) (n : ℕ) → calls ≡ record { sent = 0; full = 0; received = 0; empty = 0 } → n ≡ 0
      → AreCountsOf B M o l [] (record { calls = calls; unfinished = n })
  none_counted calls n is none = record {
    histories = [];
    runs = tt;
    calls = record {
      sent = ap (λ (c : Calls). c.sent) is;
      full = ap (λ (c : Calls). c.full) is;
      received = ap (λ (c : Calls). c.received) is;
      empty = ap (λ (c : Calls). c.empty) is;
    };
    unfinished = none;
  }

  pub both_counted : (all more : List (List Event)) (old later new : Counts) → AreCountsOf B M o l all old → AreCountsOf B M o l more later
      → new.calls ≡ calls_both old.calls later.calls → new.unfinished ≡ old.unfinished + later.unfinished → AreCountsOf B M o l (all ++ more) new
  both_counted all more old later new counted others calls unfinished = record {
    histories = counted.histories ++ others.histories;
    runs = runs_both B M o all more counted.histories others.histories counted.runs others.runs;
    calls = subst (AreTotalCalls M o (spsc_of l) (counted.histories ++ others.histories)) (sym calls)
        (calls_of_both M o (spsc_of l) counted.histories others.histories old.calls later.calls counted.calls others.calls);
    unfinished = subst (HaveUnfinished M (counted.histories ++ others.histories)) (sym unfinished)
        (unfinished_both M counted.histories others.histories old.unfinished later.unfinished counted.unfinished others.unfinished);
  }

  -- one run
  pub run_counted : (q : LitmusTest) (events : List Event) (t : History) (calls : Calls) (verdict : Verdict) → HasCalls B M o l events t calls
      → IsVerdict M q t verdict → (n : ℕ) → n ≡ unfinished_by verdict
      → AreCountsOf B M o l (events ∷ []) (record { calls = calls; unfinished = n })
  run_counted q events t calls verdict has is n count = record {
    histories = t ∷ [];
    runs = (has.run, tt);
    calls = calls_of_one M o (spsc_of l) t calls has.are;
    unfinished = by verdict is count;
  }
    where
      by : (v : Verdict) → IsVerdict M q t v → n ≡ unfinished_by v → HaveUnfinished M (t ∷ []) n
      by Holds done none = inl (done.0, none)
      by Fails done none = inl (done.0, none)
      by Unfinished not_yet one = inr (not_yet, 0, one, refl)

  pub few_unfinished : (n : ℕ) (counts : Counts) → (all : List (List Event)) × (length all ≤ n) × AreCountsOf B M o l all counts → counts.unfinished ≤ n
  few_unfinished n counts (all, few, counted) = omega (
    arith,
    few,
    runs_count B M o all counted.histories counted.runs,
    unfinished_few M counted.histories counts.unfinished counted.unfinished,
  )
