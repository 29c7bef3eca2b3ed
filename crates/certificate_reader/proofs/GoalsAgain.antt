-- What the ranks of a hart's states are for, as it is written, is read again.
use Rattle.std.proofs.Common.{◌≡◌, ℕ, ◌^◌, ◌<◌, ◌≤◌, Bool, true, false, List, [], ◌∷◌, ◌++◌, length, map, Ok, None, Some, refl, sym, subst, ◌∙◌, arith}
use Rattle.std.specs.Prelude.{codes}
use Rattle.std.specs.List.{AllByRecursion}
use Rattle.std.specs.Str.{bytes_eq}
use Rattle.std.specs.Fmt.{decimal}
use Rattle.std.proofs.lemmas.Bool.{lt-leb}
use Rattle.std.proofs.lemmas.Slice.Eq.{bytes_eq-Decides}
use Rattle.texts.specs.{word_of}
use Rattle.queue_certificates.specs.declared.goal.Goal.{Goal}
use Rattle.queue_certificates.specs.declared.goal.Goal.TheVariants as goal
use Rattle.certificate_reader.specs.declared.stages.Keyword.TheVariants as keyword
use Rattle.certificate_reader.specs.declared.stages.Stage.{Stage}
use Rattle.certificate_reader.specs.declared.stages.Stage.TheVariants as stage
use Rattle.certificate_reader.specs.Stages.{keyword_named, stage_after, is_opened}
use Rattle.certificate_reader.specs.Faults.{or_bad_line}
use Rattle.certificate_reader.specs.Goals.{goal_in, goal_of_queue, goal_together, only_count, with_goal, with_lacking, words_in}
use Rattle.certificate_reader.specs.Drafts.{DraftValue}
use Rattle.certificate_reader.specs.Writing.{goal_words, goal_line, lacks_line}
use Rattle.certificate_reader.specs.Written.{FitsWord, FitsCount, FitsGoal}
use Rattle.certificate_reader.proofs.NumbersAgain.{each_again, first_count_again, first_word_again, word_again}
use Rattle.certificate_reader.proofs.LinesAgain.{LeadsTo, line_told, IsHeld, at_stage}
use Rattle.certificate_reader.proofs.Turns.{each_line}

only_count_again : (n : ℕ) → n ≤ 2 ^ 32 → only_count (decimal n ∷ []) ≡ Ok n
unfolding only_count
only_count_again n small = rw (first_count_again n [] small) refl

no_word : word_of (codes "-") ≡ None
unfolding word_of
no_word = refl

-- the number of a queue isn't `-`
number_is_other : (n : ℕ) → n < 2 ^ 32 → bytes_eq (decimal n) (codes "-") ≡ false
number_is_other n small = by (bytes_eq (decimal n) (codes "-")) refl
  where
    by : (b : Bool) → bytes_eq (decimal n) (codes "-") ≡ b → b ≡ false
    by false is = refl
    by true is =
        let same : decimal n ≡ codes "-" = (bytes_eq-Decides (decimal n) (codes "-")).0 is in
        let none : None ≡ Some n = sym no_word ∙ subst (λ (digits : List ℕ). word_of digits ≡ Some n) same (word_again n small) in absurd cc

goal_again : (g : Goal) → FitsGoal g → goal_in (goal_words g) ≡ Ok g
unfolding goal_of_queue goal_together
goal_again (goal.Queue i K) fits =
    rw (number_is_other i fits.0, first_word_again i (decimal K ∷ []) fits.0, only_count_again K fits.1) refl
goal_again (goal.Tags i) fits = rw (number_is_other i fits, first_word_again i [] fits) refl
goal_again (goal.Together K) fits = rw (only_count_again K fits) refl

-- a hart that has opened, and of which no state has come
abbrev pub IsOpened : Stage → Type 0
IsOpened s = is_opened s ≡ true

abbrev pub with_goals : DraftValue → List Goal → Stage → DraftValue
with_goals d goals s = record d { goals = goals; stage = s }

goal_told : (d : DraftValue) (before : List Goal) (g : Goal) (s : Stage) → length before < 64 → FitsGoal g → IsOpened s
    → LeadsTo (IsHeld IsOpened (with_goals d (before ++ g ∷ []))) (with_goals d before s) (goal_line g ∷ [])
unfolding keyword_named stage_after with_goal
goal_told d before g s few fits is =
    let new = with_goals d (before ++ g ∷ []) in
    line_told (IsHeld IsOpened new) (with_goals d before s) (new s) (codes "goes") (goal_words g) keyword.Goes stage.Opened refl (rw is refl)
    (rw (goal_again g fits, lt-leb 64 (length before) few) refl) (at_stage IsOpened new stage.Opened refl)

pub goals_told : (d : DraftValue) (goals : List Goal) (s : Stage) → length goals ≤ 64 → AllByRecursion FitsGoal goals → IsOpened s
    → LeadsTo (IsHeld IsOpened (with_goals d goals)) (with_goals d [] s) (map goal_line goals)
goals_told d goals s few all is = each_line FitsGoal IsOpened (with_goals d) goal_line goals
    (λ before g t fewer fits at. goal_told d before g t (omega (arith, fewer, few)) fits at) s is all

-- ---- queues that it may lack

words_again : (ns : List ℕ) → AllByRecursion FitsWord ns → words_in (map decimal ns) ≡ Ok ns
unfolding words_in
words_again ns all = each_again (λ word. or_bad_line (word_of word)) decimal FitsWord (λ n small. rw (word_again n small) refl) ns all

abbrev pub with_sets : DraftValue → List (List ℕ) → Stage → DraftValue
with_sets d lacking s = record d { lacking = lacking; stage = s }

set_told : (d : DraftValue) (before : List (List ℕ)) (queues : List ℕ) (s : Stage) → length before < 64 → AllByRecursion FitsWord queues → IsOpened s
    → LeadsTo (IsHeld IsOpened (with_sets d (before ++ queues ∷ []))) (with_sets d before s) (lacks_line queues ∷ [])
unfolding keyword_named stage_after with_lacking
set_told d before queues s few fits is =
    let new = with_sets d (before ++ queues ∷ []) in
    line_told (IsHeld IsOpened new) (with_sets d before s) (new s) (codes "lacks") (map decimal queues) keyword.Lacks stage.Opened refl (rw is refl)
    (rw (words_again queues fits, lt-leb 64 (length before) few) refl) (at_stage IsOpened new stage.Opened refl)

pub sets_told : (d : DraftValue) (lacking : List (List ℕ)) (s : Stage) → length lacking ≤ 64 → AllByRecursion (AllByRecursion FitsWord) lacking → IsOpened s
    → LeadsTo (IsHeld IsOpened (with_sets d lacking)) (with_sets d [] s) (map lacks_line lacking)
sets_told d lacking s few all is = each_line (AllByRecursion FitsWord) IsOpened (with_sets d) lacks_line lacking
    (λ before queues t fewer fits at. set_told d before queues t (omega (arith, fewer, few)) fits at) s is all
