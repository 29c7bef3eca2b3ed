-- What the parts of an engine, as `read_test` and `end_with`, state of what they read and made, and what
-- serves the proofs alone. What a whole engine promises names none of it.
use Rattle.engine_support.specs.declared.fault.Fault.{Fault}
use Rattle.engine_support.specs.declared.fault.Fault.TheVariants.{ReadFailed, NoMemory, Refused, WriteFailed}
use Rattle.std.specs.Prelude.{ℕ, ◌≡◌, List, Option, Result, Ok, ◌≢◌, Bool, true, All, length, OnSome, Err, Some}
use Rattle.recorder.specs.declared.versions.Schedule.{Schedule}
use Rattle.recorder.specs.Versions.{ScheduleValue, schedule_value}
use Rattle.litmus.specs.LitmusTests.{LitmusTest}
use Rattle.engine_support.specs.declared.fault.Refusal.{Refusal}
use Rattle.engine_support.specs.Engines.{OfInput, decoded}
use Rattle.std.specs.Io.{StopsAt, IsEmptyOrEndsWith}
use Rattle.std.specs.Io.KnownBytes.{Consumes, IsAtEnd, Appends}
use Rattle.std.specs.declared.string.String.{String}
use Rattle.std.specs.Global.{Global, Vec}
use Rattle.std.specs.String.{string_bytes}
use Rattle.std.specs.List.{flat_map}
use Rattle.std.specs.declared.cmp.Ordering.{Ordering}
use Rattle.std.specs.Ordering.{nat_cmp}
use Rattle.std.specs.Cmp.Lexicographic.{slice_cmp}
use Rattle.std.specs.Map.{lookup}
use Rattle.engine_support.specs.declared.outcomes.Row.{Row}
use Rattle.engine_support.specs.declared.outcomes.Outcomes.{Outcomes}
use Rattle.engine_support.specs.Outcomes.{line_of}
use Rattle.engine_support.specs.Counting.{is_key}

-- not by a refusal
abbrev pub IsFailure : Fault → Type 0
IsFailure (Refused refusal) = ⊥
IsFailure other = Unit {0}

-- by a read or for want of memory
abbrev pub IsReadFailure : Fault → Type 0
IsReadFailure ReadFailed = Unit {0}
IsReadFailure NoMemory = Unit {0}
IsReadFailure other = ⊥

-- ---- what inputs are read as: texts, and litmus texts with schedules

-- the input, where it is a text within the limit
abbrev pub IsReadAsText : List ℕ → Result (List ℕ) Refusal → Type 0
IsReadAsText input answer = decoded (λ bytes. Ok bytes) input ≡ answer

-- the same of what a reader tells
abbrev pub ReadsText : Option (List ℕ) → Result (List ℕ) Refusal → Type 0
ReadsText input answer = OfInput input (λ bytes. IsReadAsText bytes answer)

-- a test and a schedule, as they were read
abbrev pub AreRead : LitmusTest → ScheduleValue → Result (LitmusTest × ScheduleValue) Refusal → Type 0
AreRead test parsed answer = answer ≡ Ok (test, parsed)

abbrev pub test_and_value : LitmusTest × Schedule → LitmusTest × ScheduleValue
test_and_value read = (read.0, schedule_value read.1)

-- ---- a part of a line, as one look at a reader gives it

-- These bytes were taken. At the line's end they end with its LF (10), or are none at the end of the input; before
-- it they have no LF.
pub record IsPart (part : List ℕ) (done : Bool) (old new : Option (List ℕ)) : Type 0 where
  pub taken : Consumes old new part
  pub stops : StopsAt part 10
  pub goes_on : done ≢ true → All (λ byte. byte ≢ 10) part
  pub ends : done ≡ true → IsEmptyOrEndsWith part 10
  pub is_last : done ≡ true → length part ≡ 0 → OnSome old (IsAtEnd new)

-- ---- what a command makes of its inputs before it ends, and how it ends then

-- What a function that reads and doesn't write returned, seen by view, is an answer, unless a read failed
-- or memory ran out.
abbrev pub FindsUpToReads : {X Y : Type 0} → (Result Y Refusal → Type 0) → (X → Y) → Result X Fault → Type 0
FindsUpToReads IsAnswer view (Ok x) = IsAnswer (Ok (view x))
FindsUpToReads IsAnswer view (Err (Refused refusal)) = IsAnswer (Err refusal)
FindsUpToReads IsAnswer view (Err NoMemory) = Unit {0}
FindsUpToReads IsAnswer view (Err ReadFailed) = Unit {0}
FindsUpToReads IsAnswer view (Err WriteFailed) = ⊥

-- A command ended that had made this: the text that is seen in it was written and the value returned, or
-- the write failed; where it had made nothing, nothing was written.
abbrev pub IsEndOf : {X V W : Type 0} → (X → List ℕ × V) → Result X Fault → Result V Fault → (contents : W → Option (List ℕ)) → (old new : W) → Type 0
IsEndOf view (Ok x) (Ok v) contents old new = (v ≡ (view x).1) × Appends (contents old) (contents new) (view x).0
IsEndOf view (Ok x) (Err WriteFailed) contents old new = Unit {0}
IsEndOf view (Ok x) failed contents old new = ⊥
IsEndOf view (Err fault) result contents old new = (result ≡ Err fault) × (new ≡ old)

-- a text and a value, seen as its bytes and the value
abbrev pub text_and_value : {V : Type 0} → String Global × V → List ℕ × V
text_and_value parts = (string_bytes parts.0, parts.1)

-- ---- the rows of a table of outcomes, in order

abbrev pub order : Vec ℕ → Vec ℕ → Ordering
order x y = slice_cmp nat_cmp x.items y.items

-- each row is the one that is found for its outcome
abbrev pub AreFound : {F : Type 0} → List (Vec ℕ × Row F) → Type 0
AreFound rows = All (λ entry. lookup (is_key entry.0.items) rows ≡ Some entry.1) rows

abbrev pub row_line : {F : Type 0} → (name : F → List ℕ) → LitmusTest → Vec ℕ × Row F → List ℕ
row_line name test entry = line_of test entry.0.items entry.1.count (name entry.1.first)

-- the lines of all rows, in order
abbrev pub lines_in : {F : Type 0} → (name : F → List ℕ) → LitmusTest → Outcomes F → List ℕ
lines_in name test outcomes = flat_map (row_line name test) outcomes.rows.entries
