use Rattle.std.proofs.Common.{◌≡◌, ℕ, Bool, List, [], ◌∷◌, ◌++◌, map, All, Some, Result, refl, sym, ap, ◌∙◌, subst, arith}
use Rattle.std.specs.List.{flat_map}
use Rattle.std.proofs.lemmas.List.Elements.{All-tail}
use Rattle.step_machine.specs.Names.{History, at_opening, Run}
use Rattle.step_machine.specs.declared.events.Event.{Event}
use Rattle.step_machine.proofs.Running.{run-one}
use Rattle.litmus.specs.{LitmusTest, left_sides, IsVerdict, final_value}
use Rattle.litmus.specs.declared.verdict.Verdict.{Verdict}
use Rattle.litmus.proofs.TestLaws.{one_verdict}
use Rattle.drawn_runs.specs.Samples.{DrawnRuns}
use Rattle.engine_support.specs.declared.fault.Refusal.{Refusal}
use Rattle.engine_support.specs.{AreOneAnswer, AreOutcomes, tests}
use Rattle.engine_support.proofs.{alike_after, one_litmus_text, one_made, equal_alike, one_outcomes}
use Rattle.sampling.proofs.laws.one_try.Goals as goal
use Rattle.sampling.specs.{Trial, IsTrial, are_good, gave, Unfinished, first_unfinished, last_line, shown_by, outcome_with_count, unfinished, IsTried}
use Rattle.sampling.specs.{IsTryAnswer}

-- Runs answer one text: what they show is determined by the test and the schedules.

-- ---- one run of each schedule

trial_of : (events : List Event) (verdict : Verdict) (values : List ℕ) → Trial
trial_of events verdict values = record { events = events; verdict = verdict; values = values }

one_trial : (B M : ℕ) (q : LitmusTest) (s t : Trial) → IsTrial B M q s → IsTrial B M q t → s.events ≡ t.events → s ≡ t
unfolding trial_of
one_trial B M q s t is other events =
    let histories : is.history ≡ other.history =
    run-one B M (at_opening q.opening) s.events is.history other.history is.ran
    (subst (λ (evs : List Event). Run B M q.opening evs other.history) (sym events) other.ran) in
    let verdicts : s.verdict ≡ t.verdict = one_verdict M q is.history s.verdict t.verdict is.judged
    (subst (λ (h : History). IsVerdict M q h t.verdict) (sym histories) other.judged) in
    let values : s.values ≡ t.values = is.read ∙ ap (λ (h : History). map (final_value M h) (left_sides q.condition)) histories ∙ sym other.read in
    ap (λ (evs : List Event). trial_of evs s.verdict s.values) events
    ∙ ap (λ (v : Verdict). trial_of t.events v s.values) verdicts
    ∙ ap (λ (xs : List ℕ). trial_of t.events t.verdict xs) values

one_list : (B M : ℕ) (q : LitmusTest) (ss ts : List Trial) → All (IsTrial B M q) ss → All (IsTrial B M q) ts
    → map (λ (t : Trial). t.events) ss ≡ map (λ (t : Trial). t.events) ts → ss ≡ ts
one_list B M q [] [] are others same = refl
one_list B M q (s ∷ ss) (t ∷ ts) are others same =
    let first : s.events ≡ t.events = cc in
    let rest : map (λ (u : Trial). u.events) ss ≡ map (λ (u : Trial). u.events) ts = cc in
    ap (λ (u : Trial). u ∷ ss) (one_trial B M q s t (are 0 s (omega arith)) (others 0 t (omega arith)) first)
    ∙ ap (λ (us : List Trial). t ∷ us) (one_list B M q ss ts (All-tail (IsTrial B M q) s ss are) (All-tail (IsTrial B M q) t ts others) rest)
one_list B M q x y are others same = absurd cc

-- ---- one text

one_text : (d : DrawnRuns) (left : Unfinished) (q : LitmusTest) (a b : List ℕ × Bool) → IsTried d left q a → IsTried d left q b → a ≡ b
one_text d left q a b is other =
    let trials : is.trials ≡ other.trials = one_list d.B d.M q is.trials other.trials is.are.ran other.are.ran (is.are.schedules ∙ sym other.are.schedules) in
    let outcomes : is.outcomes ≡ other.outcomes = one_outcomes gave is.trials is.outcomes other.outcomes is.shown
    (subst (λ (ts : List Trial). AreOutcomes gave ts other.outcomes) (sym trials) other.shown) in
    let texts : a.0 ≡ b.0 = is.text
    ∙ ap (λ (ts : List Trial). flat_map (outcome_with_count q ts) is.outcomes ++ last_line (unfinished ts) (shown_by left (first_unfinished ts))) trials
    ∙ ap (λ (xs : List (List ℕ)). flat_map (outcome_with_count q other.trials) xs
    ++ last_line (unfinished other.trials) (shown_by left (first_unfinished other.trials))) outcomes
    ∙ sym other.text in
    let goods : a.1 ≡ b.1 = is.good ∙ ap (are_good q.quantifier) trials ∙ sym other.good in
    λ i. (texts i, goods i)

pub one_try : (d : DrawnRuns) (left : Unfinished) (file : List ℕ) (a b : Result (List ℕ × Bool) Refusal)
    → IsTryAnswer d left (Some file) a → IsTryAnswer d left (Some file) b → AreOneAnswer a b
one_try d left file =
    alike_after tests (λ r s. r.number ≡ s.number) one_litmus_text AreOneAnswer (λ r s e. e) file _
    (λ q a b is other. equal_alike a b (one_made (IsTried d left q) (one_text d left q) a b is other))

pub returns : goal.returns
returns c = one_try
