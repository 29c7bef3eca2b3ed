-- A tally of judgements, and one judgement more.
use Rattle.std.proofs.Common.{◌≡◌, ℕ, ◌+◌, ◌<◌, Bool, true, false, cond, List, [], ◌∷◌, ◌++◌, length, length-append, Option, Some, None, refl, sym, ap, ◌∙◌}
use Rattle.std.proofs.Common.{arith, count_by}
use Rattle.std.specs.Prelude.{is_some, unwrap_or}
use Rattle.std.specs.List.{list_any, position_from}
use Rattle.std.specs.Option.{option_or}
use Rattle.std.proofs.lemmas.List.Sums.{count_by-le-length}
use Rattle.engine_support.specs.{counted, counted_both, seen_of, AreCountedLines, unfinished_line}
use Rattle.engine_support.proofs.OutcomeTables.{count_more, seen_few, seen_more, seen_none, are_outcomes, table_is}
use Rattle.checking.specs.{Tally, Judged, first_record, finished_with, is_refused, is_unfinished, record_end, refused_line, IsOutcomeTable, HasRoomForText}
use Rattle.checking.specs.{IsTallyOfTexts, TalliesText, first_name}
use Rattle.litmus.specs.LitmusTests.{LitmusTest}

-- ---- the first record with an outcome

some_found : {X : Type 0} (p : X → Bool) (i : ℕ) (xs : List X) → is_some (position_from p i xs) ≡ list_any p xs
some_found p i [] = refl
some_found {X} p i (x ∷ xs) = grind (arith, some_found p (i + 1) xs)

found_more : {X : Type 0} (p : X → Bool) (i : ℕ) (xs : List X) (x : X)
    → position_from p i (xs ++ x ∷ []) ≡ option_or (position_from p i xs) (cond (p x) (Some (i + length xs)) None)
found_more p i [] x = let same : i ≡ i + 0 = omega arith in ap (λ (k : ℕ). cond (p x) (Some k) None) same
found_more {X} p i (y ∷ ys) x = grind (arith, found_more p (i + 1) ys x)

first_kept : (o p : Option ℕ) → is_some o ≡ true → unwrap_or (option_or o p) 0 ≡ unwrap_or o 0
first_kept o p some = grind arith

first_new : (o : Option ℕ) (b : Bool) (n : ℕ) → is_some o ≡ false → b ≡ true → unwrap_or (option_or o (cond b (Some n) None)) 0 ≡ n
first_new o b n none given = grind arith

-- ---- one more judgement makes a tally of one more

more_seen : (answers : List Judged) (answer : Judged) (outcome : List ℕ) → seen_of finished_with first_record (answers ++ answer ∷ []) outcome
    ≡ cond (finished_with outcome answer) (counted_both (seen_of finished_with first_record answers outcome) (Some (1, record_end (length answers + 1))))
    (seen_of finished_with first_record answers outcome)
more_seen answers answer outcome =
    let p : Judged → Bool = finished_with outcome in
    let found = found_more p 1 answers answer in
    let number : 1 + length answers ≡ length answers + 1 = omega arith in
    seen_more finished_with first_record answers answer outcome (record_end (length answers + 1))
    (λ none given. ap record_end (ap (λ (o : Option ℕ). unwrap_or o 0) found
    ∙ first_new (position_from p 1 answers) (p answer) (1 + length answers) (some_found p 1 answers ∙ none) given ∙ number))
    (λ some. ap record_end (ap (λ (o : Option ℕ). unwrap_or o 0) found
    ∙ first_kept (position_from p 1 answers) (cond (p answer) (Some (1 + length answers)) None) (some_found p 1 answers ∙ some)))

pub tally_more : (answers : List Judged) (answer : Judged) (old new : Tally) → IsTallyOfTexts answers old
    → TalliesText answer old new → IsTallyOfTexts (answers ++ answer ∷ []) new
tally_more answers answer old new tally more = record {
  counts = λ outcome. more.counts outcome ∙ rw (tally.counts outcome, tally.judged_are) (sym (more_seen answers answer outcome));
  judged_are = more.judged_are ∙ ap (λ (n : ℕ). n + 1) tally.judged_are ∙ (let e = length-append answers (answer ∷ []) in omega (arith, e));
  unfinished_are = more.unfinished_are ∙ (rw (tally.unfinished_are, count_more is_unfinished answers answer) refl);
  refused_are = more.refused_are ∙ (rw (tally.refused_are, count_more is_refused answers answer) refl);
}

-- ---- there is room for one more

pub has_room : (answers : List Judged) (tally : Tally) → IsTallyOfTexts answers tally → length answers < 18446744073709551615 → HasRoomForText tally
has_room answers tally is few = record {
  counts = λ outcome. rw (is.counts outcome) (seen_few finished_with first_record answers outcome 18446744073709551615 few);
  judged = rw is.judged_are few;
  unfinished_are = (let less = count_by-le-length is_unfinished answers in omega (arith, is.unfinished_are, less, few));
  refused_are = (let less = count_by-le-length is_refused answers in omega (arith, is.refused_are, less, few));
}

-- ---- the steps of a tally

-- of no text nothing is counted
pub nothing_counted : (tally : Tally) → ((outcome : List ℕ) → counted first_name tally.outcomes outcome ≡ None)
    → tally.judged ≡ 0 → tally.unfinished ≡ 0 → tally.refused ≡ 0 → IsTallyOfTexts [] tally
nothing_counted tally nothing none unfinished refused =
    record {
      counts = λ outcome. nothing outcome ∙ sym (seen_none finished_with first_record outcome);
      judged_are = none;
      unfinished_are = unfinished;
      refused_are = refused;
    }

-- ---- the text of a tally is the table of what was judged

pub tabled : (test : LitmusTest) (answers : List Judged) (tally : Tally) (lines text : List ℕ) → IsTallyOfTexts answers tally
    → AreCountedLines test (counted first_name tally.outcomes) lines → text ≡ lines ++ unfinished_line tally.unfinished ++ refused_line tally.refused
    → IsOutcomeTable test answers text
tabled test answers tally lines text is made written = record {
  outcomes = made.outcomes;
  shown = are_outcomes finished_with first_record test answers (counted first_name tally.outcomes) lines is.counts made;
  is = written
      ∙ (rw (is.unfinished_are, is.refused_are)
      (ap (λ (xs : List ℕ). xs ++ unfinished_line (count_by is_unfinished answers) ++ refused_line (count_by is_refused answers))
      (table_is finished_with first_record test answers (counted first_name tally.outcomes) lines is.counts made)));
}
