use Rattle.std.proofs.Common.{◌≡◌, ℕ, Bool, List, [], ◌∷◌, ◌++◌, map, take, count_by, Some, Result, Ok, refl, sym, ap, ap₂, ◌∙◌, subst}
use Rattle.std.specs.Prelude.{◌==◌}
use Rattle.std.specs.List.{flat_map, slice_get}
use Rattle.step_machine.specs.Names.{OpeningValue, History, at_opening, Happens}
use Rattle.step_machine.proofs.Running.{happens-one, run-one}
use Rattle.texts.proofs.{settled_one, settled_only, some_is}
use Rattle.litmus.specs.{LitmusTest, left_sides, final_value}
use Rattle.litmus.specs.declared.verdict.Verdict.{Verdict}
use Rattle.litmus.proofs.TestLaws.{one_verdict}
use Rattle.recorder.specs.{Step, events_in, IsRecordOf, record_at, IsRunRecord, DiffersAt}
use Rattle.recorder.proofs.HeadLaws.{record_settles}
use Rattle.recorder.proofs.RunRecords.{no_other, record_runs}
use Rattle.engine_support.specs.declared.fault.Refusal.{Refusal}
use Rattle.engine_support.specs.{AreOneAnswer, decoded, unfinished_line, tests, whole_lines}
use Rattle.engine_support.proofs.{one_outcomes, alike_after, one_litmus_text, one_made, equal_alike, one_refusal, value_or_refusal, one_place}
use Rattle.checking.proofs.laws.one_check.Goals as goal
use Rattle.checking.specs.{line_of_event, texts_in, AreTextsJudged, EndsAs, IsDifference, IsTextJudged, IsRunJudged, IsRecordJudged, Judged, judged_run, of_run}
use Rattle.checking.specs.{record_of, differing, no_record, of_difference, none, record_is, judgement_lines, finished_with, IsOutcomeTable, is_refused}
use Rattle.checking.specs.{is_unfinished, accepted_row, refused_line, IsCheckAnswer, IsChecked}
use Rattle.checking.specs.Judgements.{Difference}

-- One text answers an input: the judgements are determined by the test and the input.

-- ---- one run of a record

one_history : (B M : ℕ) (o : OpeningValue) (steps others : List Step) (t u : History) → steps ≡ others
    → IsRunRecord B M o steps t → IsRunRecord B M o others u → t ≡ u
one_history B M o steps others t u same is other =
    run-one B M (at_opening o) (events_in others) t u (record_runs B M o others t (subst (λ (xs : List Step). IsRunRecord B M o xs t) same is))
    (record_runs B M o others u other)

one_end : (M : ℕ) (q : LitmusTest) (t : History) (a b : Judged) → EndsAs M q a t → EndsAs M q b t → a ≡ b
one_end M q t a b is other =
    let verdicts : is.verdict ≡ other.verdict = one_verdict M q t is.verdict other.verdict is.judged other.judged in
    is.answer_is ∙ ap (λ (v : Verdict). judged_run v (map (final_value M t) (left_sides q.condition))) verdicts ∙ sym other.answer_is

one_of_run : (B M : ℕ) (q : LitmusTest) (steps : List Step) (a b : Judged) → IsRunJudged B M q steps a → IsRunJudged B M q steps b → a ≡ b
one_of_run B M q steps a b is other =
    let same : is.history ≡ other.history = one_history B M q.opening steps steps is.history other.history refl is.ran other.ran in
    one_end M q other.history a b (subst (EndsAs M q a) same is.ends) other.ends

-- ---- one first difference

one_differing : (B M : ℕ) (o : OpeningValue) (steps : List Step) (i j : ℕ) → i ≡ j → (x : DiffersAt B M o steps i) (y : DiffersAt B M o steps j)
    → (x.step ≡ y.step) × (x.outcome ≡ y.outcome)
one_differing B M o steps i j places x y =
    let steps_same : x.step ≡ y.step = some_is x.step y.step (sym x.stands ∙ ap (slice_get steps) places ∙ y.stands) in
    let before : x.before ≡ y.before =
    one_history B M o (take i steps) (take j steps) x.before y.before (ap (λ (k : ℕ). take k steps) places) x.is_record y.is_record in
    let here : Happens B M y.before y.step.0 x.outcome x.after =
    subst (λ (s : Step). Happens B M y.before s.0 x.outcome x.after) steps_same
    (subst (λ (t : History). Happens B M t x.step.0 x.outcome x.after) before x.happens) in
    (steps_same, (happens-one B M y.before y.step.0 x.outcome y.outcome x.after y.after here y.happens).0)

one_difference : (B M : ℕ) (q : LitmusTest) (text : List ℕ) (steps : List Step) (d e : Difference)
    → IsDifference B M q text steps d → IsDifference B M q text steps e → d ≡ e
one_difference B M q text steps d e is other =
    let events : d.event ≡ e.event = one_place B M q.opening steps d.event e.event is.differs other.differs in
    let same = one_differing B M q.opening steps d.event e.event events is.differs other.differs in
    let lines : d.line ≡ e.line = is.line ∙ ap (line_of_event text) events ∙ sym other.line in
    let steps_same : d.step ≡ e.step = sym is.step ∙ same.0 ∙ other.step in
    let found : d.found ≡ e.found = sym is.found ∙ same.1 ∙ other.found in
    λ i. record { event = events i; line = lines i; step = steps_same i; found = found i }

-- ---- one judgement of a text

one_record_judged : (B M : ℕ) (q : LitmusTest) (text : List ℕ) (steps : List Step) (a b : Judged)
    → IsRecordJudged B M q text steps a → IsRecordJudged B M q text steps b → a ≡ b
one_record_judged B M q text steps a b (of_run x is) (of_run y other) = one_of_run B M q steps x y is other
one_record_judged B M q text steps a b (of_run x is) (of_difference e other) = absurd (no_other B M q.opening steps is.history e.event is.ran other.differs)
one_record_judged B M q text steps a b (of_difference d is) (of_run y other) = absurd (no_other B M q.opening steps other.history d.event other.ran is.differs)
one_record_judged B M q text steps a b (of_difference d is) (of_difference e other) = ap differing (one_difference B M q text steps d e is other)

read_record : (text : List ℕ) (steps : List Step) → IsRecordOf text steps → record_of text ≡ Ok steps
unfolding record_of
read_record text steps is = let found = settled_only (IsRecordOf text) (record_at text) steps (record_settles text) is in rw found refl

one_judged : (B M : ℕ) (q : LitmusTest) (text : List ℕ) (a b : Judged) → IsTextJudged B M q text a → IsTextJudged B M q text b → a ≡ b
one_judged B M q text a b (none r refused) (none s other) = ap no_record (one_refusal (decoded record_of text) r s refused other)
one_judged B M q text a b (none r refused) (record_is steps y also others_judged) =
    absurd (value_or_refusal record_of IsRecordOf text steps r (read_record text steps) also refused)
one_judged B M q text a b (record_is steps x is judged) (none s refused) =
    absurd (value_or_refusal record_of IsRecordOf text steps s (read_record text steps) is refused)
one_judged B M q text a b (record_is steps x is judged) (record_is others y also others_judged) =
    let same : others ≡ steps = settled_one (IsRecordOf text) (record_at text) others steps (record_settles text) also.value_is is.value_is in
    one_record_judged B M q text steps x y judged (subst (λ (xs : List Step). IsRecordJudged B M q text xs y) same others_judged)

one_list : (B M : ℕ) (q : LitmusTest) (texts : List (List ℕ)) (xs ys : List Judged) → AreTextsJudged B M q texts xs → AreTextsJudged B M q texts ys → xs ≡ ys
one_list B M q [] xs ys are others = are ∙ sym others
one_list B M q (text ∷ texts) xs ys (a, rest, same, is, are) (b, others, equal, also, tell) =
    same ∙ ap₂ (λ (x : Judged) (xs : List Judged). x ∷ xs) (one_judged B M q text a b is also) (one_list B M q texts rest others are tell) ∙ sym equal

-- ---- one table and one text

one_table : (q : LitmusTest) (answers : List Judged) (a b : List ℕ) → IsOutcomeTable q answers a → IsOutcomeTable q answers b → a ≡ b
one_table q answers a b is other =
    let outcomes : is.outcomes ≡ other.outcomes = one_outcomes finished_with answers is.outcomes other.outcomes is.shown other.shown in
    is.is
    ∙ ap (λ (xs : List (List ℕ)). flat_map (accepted_row q answers) xs ++ unfinished_line (count_by is_unfinished answers)
    ++ refused_line (count_by is_refused answers)) outcomes
    ∙ sym other.is

one_checked : (B M : ℕ) (lines : List (List ℕ)) (q : LitmusTest) (a b : List ℕ × Bool) → IsChecked B M lines q a → IsChecked B M lines q b → a ≡ b
one_checked B M lines q a b is other =
    let answers : is.answers ≡ other.answers = one_list B M q (texts_in lines) is.answers other.answers is.are other.are in
    let tables : is.table ≡ other.table =
    one_table q other.answers is.table other.table (subst (λ (xs : List Judged). IsOutcomeTable q xs is.table) answers is.tabled) other.tabled in
    let texts : a.0 ≡ b.0 = is.text ∙ ap₂ (λ (xs : List Judged) (table : List ℕ). judgement_lines 1 xs ++ table) answers tables ∙ sym other.text in
    let goods : a.1 ≡ b.1 = is.good ∙ ap (λ (xs : List Judged). count_by is_refused xs == 0) answers ∙ sym other.good in
    λ i. (texts i, goods i)

pub one_check : (B M : ℕ) (records file : List ℕ) (a b : Result (List ℕ × Bool) Refusal)
    → IsCheckAnswer B M (Some records) (Some file) a → IsCheckAnswer B M (Some records) (Some file) b → AreOneAnswer a b
one_check B M records file =
    alike_after tests (λ r s. r.number ≡ s.number) one_litmus_text AreOneAnswer (λ r s e. e) file _
    (λ q a b is other. equal_alike a b (one_made (IsChecked B M (whole_lines records) q) (one_checked B M (whole_lines records) q) a b is other))

pub returns : goal.returns
returns c = one_check
