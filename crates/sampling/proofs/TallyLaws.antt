-- A tally of runs, and one run more.
use Rattle.std.proofs.Common.{◌≡◌, ℕ, ◌+◌, ◌<◌, Bool, true, false, cond, ◌&&◌, ◌||◌, not, List, [], ◌∷◌, ◌++◌, length, find, Option, Some, None, refl, sym, ap}
use Rattle.std.proofs.Common.{ap₂, ◌∙◌, arith}
use Rattle.std.specs.Prelude.{IfSome, OnOk, Result, is_some, ◌==◌}
use Rattle.std.specs.List.{list_any}
use Rattle.std.specs.Option.{option_or}
use Rattle.std.specs.Str.{bytes_eq}
use Rattle.std.proofs.lemmas.List.Folds.{find-append}
use Rattle.std.proofs.lemmas.List.Sums.{sum_by-append, count_by-le-length}
use Rattle.step_machine.specs.declared.events.Event.{Event}
use Rattle.litmus.specs.declared.verdict.Verdict.{Verdict}
use Rattle.engine_support.specs.Counting.{Counted, counted, counted_both, Counts, seen_of}
use Rattle.engine_support.proofs.OutcomeTables.{any_more, count_more, seen_few, seen_more, seen_none}
use Rattle.sampling.specs.{Tally, Trial, is_finished, is_holds, is_fails, gave, first_schedule, first_schedule_text, first_unfinished, is_left, schedule_text}
use Rattle.sampling.specs.{unfinished, IsTallyOf, Tallies, end_after, left_name}

-- ---- the first run with an outcome

some_found : {X : Type 0} (p : X → Bool) (xs : List X) → is_some (find p xs) ≡ list_any p xs
some_found p [] = refl
some_found {X} p (x ∷ xs) = grind (arith, some_found p xs)

first_kept : (o p : Option Trial) → is_some o ≡ true → first_schedule_text (option_or o p) ≡ first_schedule_text o
first_kept o p some = grind arith

first_later : (o p : Option Trial) → is_some o ≡ false → first_schedule_text (option_or o p) ≡ first_schedule_text p
first_later o p none = grind arith

-- of runs and then later ones it is one of the runs, where one of them gave the outcome
pub first_of_both : (outcome : List ℕ) (front back : List Trial) → list_any (gave outcome) front ≡ true
    → first_schedule outcome (front ++ back) ≡ first_schedule outcome front
first_of_both outcome front back some =
    ap first_schedule_text (find-append (gave outcome) front back)
    ∙ first_kept (find (gave outcome) front) (find (gave outcome) back) (some_found (gave outcome) front ∙ some)

-- and else one of the later ones
pub first_of_later : (outcome : List ℕ) (front back : List Trial) → list_any (gave outcome) front ≡ false
    → first_schedule outcome (front ++ back) ≡ first_schedule outcome back
first_of_later outcome front back none =
    ap first_schedule_text (find-append (gave outcome) front back)
    ∙ first_later (find (gave outcome) front) (find (gave outcome) back) (some_found (gave outcome) front ∙ none)

-- ---- the first run that did not finish

count_step : (t : Trial) (trials : List Trial) → unfinished (t ∷ trials) ≡ cond (is_left t) 1 0 + unfinished trials
count_step t trials = let e = sum_by-append (λ (y : Trial). cond (is_left y) 1 0) (t ∷ []) trials in omega (arith, e)

-- of runs and then later ones it is one of the runs, unless all of these finished
pub left_of_both : (front back : List Trial)
    → first_unfinished (front ++ back) ≡ cond (unfinished front == 0) (first_unfinished back) (first_unfinished front)
left_of_both [] back = refl
left_of_both (t ∷ front) back = grind (arith, count_step t front, left_of_both front back)

all_finished : (trials : List Trial) → unfinished trials ≡ 0 → first_unfinished trials ≡ []
all_finished [] none = refl
all_finished (t ∷ trials) none = grind (arith, count_step t trials, all_finished trials)

left_more : (trials : List Trial) (trial : Trial)
    → first_unfinished (trials ++ trial ∷ []) ≡ end_after trial (unfinished trials) (first_unfinished trials)
left_more trials trial = grind (arith, left_of_both trials (trial ∷ []), all_finished trials)

-- ---- one more run makes a tally of one more

more_seen : (trials : List Trial) (trial : Trial) (outcome : List ℕ) → seen_of gave first_schedule (trials ++ trial ∷ []) outcome
    ≡ cond (gave outcome trial)
    (counted_both (seen_of gave first_schedule trials outcome) (Some (1, schedule_text trial.events)))
    (seen_of gave first_schedule trials outcome)
more_seen trials trial outcome = seen_more gave first_schedule trials trial outcome (schedule_text trial.events)
    (λ none given. first_of_later outcome trials (trial ∷ []) none ∙ ap (λ (b : Bool). first_schedule_text (cond b (Some trial) None)) given)
    (first_of_both outcome trials (trial ∷ []))

pub tally_more : {F : Type 0} {name : F → List ℕ} (trials : List Trial) (trial : Trial) (old new : Tally F)
    → IsTallyOf name trials old → Tallies name trial old new
    → IsTallyOf name (trials ++ trial ∷ []) new
tally_more trials trial old new tally more = record {
  counts = λ outcome. more.counts outcome
      ∙ ap (λ (seen : Option Counted). cond (gave outcome trial) (counted_both seen (Some (1, schedule_text trial.events))) seen) (tally.counts outcome)
      ∙ sym (more_seen trials trial outcome);
  unfinished_are = grind (arith, count_more, more.unfinished_are, tally.unfinished_are);
  first_is = more.first_is ∙ ap₂ (end_after trial) tally.unfinished_are tally.first_is ∙ sym (left_more trials trial);
  holds = grind (arith, any_more, more.holds, tally.holds);
  fails = grind (arith, any_more, more.fails, tally.fails);
}

-- no count is above the number of runs
pub counted-few : {F : Type 0} {name : F → List ℕ} (trials : List Trial) (tally : Tally F) (most : ℕ) → IsTallyOf name trials tally → length trials < most
    → (outcome : List ℕ) → IfSome {T = Counted} (counted name tally.outcomes outcome) (λ seen. seen.0 < most)
counted-few trials tally most is few outcome = rw (is.counts outcome) (seen_few gave first_schedule trials outcome most few)

pub unfinished-few : {F : Type 0} {name : F → List ℕ} (trials : List Trial) (tally : Tally F) (most : ℕ)
    → IsTallyOf name trials tally → length trials < most → tally.unfinished < most
unfinished-few trials tally most is few = omega (arith, is.unfinished_are, count_by-le-length (λ (t : Trial). not (is_finished t.verdict)) trials, few)

-- ---- the steps of a tally

-- of no run nothing is counted
pub nothing_counted : {F : Type 0} {name : F → List ℕ} (tally : Tally F) → ((outcome : List ℕ) → counted name tally.outcomes outcome ≡ None)
    → tally.unfinished ≡ 0 → left_name name tally.first_unfinished ≡ [] → tally.some_hold ≡ false → tally.some_fail ≡ false → IsTallyOf name [] tally
nothing_counted tally nothing none first holds fails = record {
  counts = λ outcome. nothing outcome ∙ sym (seen_none gave first_schedule outcome);
  unfinished_are = none;
  first_is = first;
  holds = holds;
  fails = fails;
}

-- a finished run gave exactly its values
gave_by_key : (finished : Bool) → finished ≡ true → (outcome values : List ℕ) → (finished && bytes_eq outcome values) ≡ bytes_eq outcome values
gave_by_key finished e outcome values = grind arith

-- a finished run whose outcome was counted is tallied
pub tallied : {E F : Type 0} (name : F → List ℕ) (result : Result (Unit {0}) E) (run : F) (verdict : Verdict)
    (values : List ℕ) (old new : Tally F) → is_finished verdict ≡ true → new.unfinished ≡ old.unfinished
    → new.first_unfinished ≡ old.first_unfinished
    → new.some_hold ≡ (old.some_hold || is_holds verdict) → new.some_fail ≡ (old.some_fail || is_fails verdict)
    → OnOk result (Counts values (1, name run) (counted name old.outcomes) (counted name new.outcomes))
    → OnOk result ((events : List Event) → name run ≡ schedule_text events
    → Tallies name (record { events = events; verdict = verdict; values = values }) old new)
tallied name result run verdict values old new finished same first holds fails counts = grind (arith, gave_by_key)

pub or_true : (b : Bool) → true ≡ (b || true)
or_true b = grind arith

pub or_none : (b : Bool) → b ≡ (b || false)
or_none b = grind arith
