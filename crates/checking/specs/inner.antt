-- What serves the proofs alone, where a private contract names it.
use Rattle.std.specs.Prelude.{ℕ, ◌≡◌, ◌⊎◌, ◌<◌, ◌++◌, nat_lt, if◌then◌else◌, List, length, Option, None, Some, ◌+◌, IfSome, count_by, true, false}
use Rattle.step_machine.specs.History.{History, OpeningValue}
use Rattle.step_machine.specs.Standing.{RepresentsHistory, RepresentsRunFrom}
use Rattle.step_machine.specs.inner.Config.{Config}
use Rattle.step_machine.specs.declared.events.Outcome.{Outcome}
use Rattle.recorder.specs.Records.{Step}
use Rattle.recorder.specs.Replaying.{IsRunRecord, DiffersAt}
use Rattle.engine_support.specs.declared.input.TheConstants.{INPUT_BYTES}
use Rattle.litmus.specs.LitmusTests.{LitmusTest}
use Rattle.engine_support.specs.Counting.{counted, counted_both, seen_of}
use Rattle.engine_support.specs.Outcomes.{unfinished_line}
use Rattle.engine_support.specs.inner.{lines_in}
use Rattle.checking.specs.declared.tally.FirstRecord.{FirstRecord}
use Rattle.checking.specs.declared.tally.Tally.{Tally}
use Rattle.checking.specs.declared.judging.Judgement.{Judgement}
use Rattle.checking.specs.declared.judging.Judgement.TheVariants as judgement
use Rattle.checking.specs.declared.judging.Difference.{Difference as CodeDifference}
use Rattle.checking.specs.Judgements.{Difference, Judged, IsTextJudged, AreTextsJudged}
use Rattle.checking.specs.Judgements.Judged.{finished, unfinished, differing, no_record}
use Rattle.checking.specs.Outcomes.{first_record, finished_with, is_unfinished, is_refused, record_end, refused_line}
use Rattle.std.specs.Io.KnownBytes.{Appends}
use Rattle.checking.specs.RecordTexts.{begins_record, is_left_out, texts_in}
use Rattle.checking.specs.Reports.{judgement_line, judgement_lines}
use Rattle.checking.specs.Checking.{IsFront, OfLines}

-- What is held of a text: all of it, or more than a text may have.
abbrev pub IsHeld : (text held : List ℕ) → Type 0
IsHeld text held = (held ≡ text) ⊎ ((INPUT_BYTES < length held) × (INPUT_BYTES < length text))

-- what is held with a line more: none of it, where that is more already
abbrev pub held_with : (held line : List ℕ) → List ℕ
held_with held line = if nat_lt INPUT_BYTES (length held) then held else held ++ line

-- What running the steps of a record gives, and where a machine of this opening stands then: each outcome is the
-- run's, or this is the first place with another one, which is the run's there.
abbrev pub Follows : (B M : ℕ) → OpeningValue → List Step → (found : Option (ℕ × Outcome)) → Config → Type 0
Follows B M o steps None c = (t : History) × IsRunRecord B M o steps t × RepresentsHistory B M t c × (t.opening ≡ o)
Follows B M o steps (Some found) c = (d : DiffersAt B M o steps found.0) × (d.outcome ≡ found.1) × RepresentsRunFrom B M o c

-- ---- what is kept of the texts that were judged: how many, how many were unfinished or refused, and a row for each outcome

-- what a difference in the code stands for
abbrev pub difference_of : CodeDifference → Difference
difference_of d = record { event = d.event; line = d.line; step = d.step; found = d.found }

-- a judgement, with the values that stand beside it
abbrev pub judged_by : Judgement → (values : List ℕ) → Judged
judged_by judgement.Finished values = finished values
judged_by judgement.Unfinished values = unfinished
judged_by (judgement.Differs d) values = differing (difference_of d)
judged_by (judgement.NoRecord refusal) values = no_record refusal

-- what names the first record with an outcome
abbrev pub first_name : FirstRecord → List ℕ
first_name first = record_end first.number

-- a tally of these judgements
pub record IsTallyOfTexts (answers : List Judged) (tally : Tally) : Type 0 where
  pub counts : (outcome : List ℕ) → counted first_name tally.outcomes outcome ≡ seen_of finished_with first_record answers outcome
  pub judged_are : tally.judged ≡ length answers
  pub unfinished_are : tally.unfinished ≡ count_by is_unfinished answers
  pub refused_are : tally.refused ≡ count_by is_refused answers

-- one more text was judged
pub record TalliesText (answer : Judged) (old new : Tally) : Type 0 where
  pub counts : (outcome : List ℕ) → counted first_name new.outcomes outcome
      ≡ (if finished_with outcome answer
      then counted_both (counted first_name old.outcomes outcome) (Some (1, record_end (old.judged + 1)))
      else counted first_name old.outcomes outcome)
  pub judged_are : new.judged ≡ old.judged + 1
  pub unfinished_are : new.unfinished ≡ old.unfinished + (if is_unfinished answer then 1 else 0)
  pub refused_are : new.refused ≡ old.refused + (if is_refused answer then 1 else 0)

-- two tallies count the same
pub record CountsAlike (old new : Tally) : Type 0 where
  pub counts : (outcome : List ℕ) → counted first_name new.outcomes outcome ≡ counted first_name old.outcomes outcome
  pub judged_are : new.judged ≡ old.judged
  pub unfinished_are : new.unfinished ≡ old.unfinished
  pub refused_are : new.refused ≡ old.refused

-- one more text can be counted in 64 bits
pub record HasRoomForText (tally : Tally) : Type 0 where
  pub counts : (outcome : List ℕ) → IfSome (counted first_name tally.outcomes outcome) (λ seen. seen.0 < 18446744073709551615)
  pub judged : tally.judged < 18446744073709551615
  pub unfinished_are : tally.unfinished < 18446744073709551615
  pub refused_are : tally.refused < 18446744073709551615

-- the table that is written of a tally
abbrev pub table_text : LitmusTest → Tally → List ℕ
table_text test tally = lines_in first_name test tally.outcomes ++ unfinished_line tally.unfinished ++ refused_line tally.refused

-- ---- what was written of the texts that were judged

-- a text was judged and taken into the tally, and its line written
pub record OneWritten (B M : ℕ) (test : LitmusTest) (text : List ℕ) (old new : Tally) (before after : Option (List ℕ)) : Type 0 where
  pub answer : Judged
  pub is : IsTextJudged B M test text answer
  pub tallied : TalliesText answer old new
  pub appends : Appends before after (judgement_line (old.judged + 1) answer)

-- a text that a record follows was left out, or judged
pub data Closes (B M : ℕ) (test : LitmusTest) (text : List ℕ) (old new : Tally) (before after : Option (List ℕ)) : Type 0 where
  left_out : is_left_out text ≡ true → new ≡ old → after ≡ before → Closes B M test text old new before after
  judged : is_left_out text ≡ false → OneWritten B M test text old new before after → Closes B M test text old new before after

-- all texts in these lines were judged and tallied, and their lines written
pub record AllWritten (B M : ℕ) (test : LitmusTest) (lines : List (List ℕ)) (tally : Tally) (before after : Option (List ℕ)) : Type 0 where
  pub answers : List Judged
  pub are : AreTextsJudged B M test (texts_in lines) answers
  pub tallied : IsTallyOfTexts answers tally
  pub appends : Appends before after (judgement_lines 1 answers)

-- the lines of the first texts of an input were written
abbrev pub SomeWritten : (B M : ℕ) → LitmusTest → (input before after : Option (List ℕ)) → Type 0
SomeWritten B M test input before after = (out : List ℕ) × Appends before after out × OfLines input (λ lines. IsFront B M lines test out)

-- A line belongs to the text of which this was held, or it begins a record, and the text was closed.
pub data TakesLine (B M : ℕ) (test : LitmusTest) (line held kept : List ℕ) (old new : Tally) (before after : Option (List ℕ)) : Type 0 where
  belongs : begins_record line ≡ false → ((whole : List ℕ) → IsHeld whole held → IsHeld (whole ++ line) kept) → new ≡ old → after ≡ before
      → TakesLine B M test line held kept old new before after
  begins : begins_record line ≡ true → Closes B M test held old new before after → kept ≡ line → TakesLine B M test line held kept old new before after
