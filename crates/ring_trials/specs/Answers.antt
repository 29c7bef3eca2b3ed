-- The answer of many runs: where all are clean, each sender's totals; otherwise a short schedule that isn't clean, and its
-- first violation.
use Rattle.std.specs.Prelude.{ℕ, ◌≡◌, ◌+◌, ◌<◌, ◌==◌, if◌then◌else◌, Bool, true, false, List, [], ◌∷◌, ◌++◌, length, codes}
use Rattle.std.specs.Fmt.{decimal}
use Rattle.hart.specs.Steps.{stop_number}
use Rattle.step_machine.specs.declared.events.Event.{Event}
use Rattle.recorder.specs.Writing.{canon}
use Rattle.poll_close.specs.declared.clean.Violation.{Violation}
use Rattle.poll_close.specs.declared.clean.Violation.TheVariants as violation
use Rattle.drawn_runs.specs.Samples.{DrawnRuns}
use Rattle.judged_runs.specs.Finding.{AreAllGood}
use Rattle.judged_runs.specs.Telling.{IsFlawTold}
use Rattle.ring_trials.specs.UserChannel.{lists_of}
use Rattle.ring_trials.specs.declared.runs.Total.{Total}
use Rattle.ring_trials.specs.declared.user_channel.UserChannel.{UserChannel}
use Rattle.ring_trials.specs.Trials.{channel_schedule, IsClean, HasViolation, AreTotalsOf}

-- which blocks are a hart's: for the receiver all
abbrev pub blocks_text : (hart : ℕ) → List ℕ
blocks_text h = if h == 0 then codes "the blocks" else codes "its block"

-- what a hart did outside its blocks, and where
abbrev pub outside_text : (hart : ℕ) → (did : List ℕ) → (address : ℕ) → List ℕ
outside_text h did a = codes "hart " ++ decimal h ++ codes " " ++ did ++ codes " outside " ++ blocks_text h ++ codes " at " ++ decimal a

-- what is broken, in words
abbrev pub violation_text : Violation → List ℕ
violation_text (violation.Another i w next) =
    codes "sender " ++ decimal i ++ codes ": took " ++ decimal w ++ codes " where " ++ decimal next ++ codes " was next"
violation_text (violation.AfterWhole i w) = codes "sender " ++ decimal i ++ codes ": took " ++ decimal w ++ codes " after its whole list"
violation_text (violation.AfterClosed i w) = codes "sender " ++ decimal i ++ codes ": took " ++ decimal w ++ codes " after it was closed"
violation_text (violation.ClosedEarly i took all) =
    codes "sender " ++ decimal i ++ codes ": closed after " ++ decimal took ++ codes " of " ++ decimal all ++ codes " words"
violation_text (violation.ClosedAgain i) = codes "sender " ++ decimal i ++ codes ": closed after it was closed"
violation_text (violation.TookOfNone i w) = codes "sender " ++ decimal i ++ codes ": took " ++ decimal w ++ codes " but there is no such sender"
violation_text (violation.ClosedNone i) = codes "sender " ++ decimal i ++ codes ": closed but there is no such sender"
violation_text (violation.Stopped h why) = codes "hart " ++ decimal h ++ codes " stopped " ++ decimal (stop_number why)
violation_text (violation.LoadedOutside h a) = outside_text h (codes "loaded") a
violation_text (violation.StoredOutside h a) = outside_text h (codes "stored") a
violation_text (violation.ExchangedOutside h a) = outside_text h (codes "exchanged") a

abbrev pub violation_line : Violation → List ℕ
violation_line found = violation_text found ++ 10 ∷ []

abbrev pub sender_line : (sender : ℕ) → Total → (words : ℕ) → List ℕ
sender_line i total words =
    codes "sender " ++ decimal i ++ codes " took at most " ++ decimal total.most ++ codes " of " ++ decimal words ++ codes " words, closed in "
    ++ decimal total.closed ++ codes " runs" ++ 10 ∷ []

-- the lines of the senders, from this one on
abbrev pub sender_lines : (sender : ℕ) → List Total → List (List ℕ) → List ℕ
sender_lines i [] lists = []
sender_lines i (total ∷ totals) [] = []
sender_lines i (total ∷ totals) (list ∷ lists) = sender_line i total (length list) ++ sender_lines (i + 1) totals lists

abbrev pub clean_text : (runs : ℕ) → List Total → List (List ℕ) → List ℕ
clean_text runs totals lists = codes "clean " ++ decimal runs ++ codes " runs" ++ 10 ∷ sender_lines 0 totals lists

-- a short schedule of the first unclean run, and what its own run breaks
pub record IsUncleanOutput (d : DrawnRuns) (channel : UserChannel) (text : List ℕ) : Type 0 where
  pub part : List Event
  pub violation : Violation
  pub is_told : IsFlawTold (IsClean d.B d.M channel) (HasViolation d.B d.M channel) (λ found other. Unit {0}) (channel_schedule d channel) d.number
      part violation
  pub text_is : text ≡ canon part ++ violation_line violation

-- all runs are clean, and the text lists each sender's totals
pub record IsCleanOutput (d : DrawnRuns) (channel : UserChannel) (text : List ℕ) : Type 0 where
  pub totals : List Total
  pub clean : AreAllGood (IsClean d.B d.M channel) (AreTotalsOf d.B d.M channel) (channel_schedule d channel) 0 d.number totals
  pub text_is : text ≡ clean_text d.number totals (lists_of channel)

-- the text for these drawn runs, and whether all are clean
abbrev pub IsTrialsOutput : DrawnRuns → UserChannel → List ℕ × Bool → Type 0
IsTrialsOutput d channel (text, true) = IsCleanOutput d channel text
IsTrialsOutput d channel (text, false) = IsUncleanOutput d channel text
