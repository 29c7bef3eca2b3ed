-- What inputs are read as, one after the other: texts, litmus texts and schedules.
use Rattle.std.specs.Prelude.{ℕ, ◌≡◌, List, Option, IsSomeAnd, Result, Ok, Err, ◌+◌, ◌<◌, ◌≤◌, length, take, ◌==◌, if◌then◌else◌, [], ◌∷◌}
use Rattle.engine_support.specs.declared.fault.Refusal.{Refusal}
use Rattle.engine_support.specs.Engines.{AcceptedInput, OfInput, decoded}
use Rattle.std.specs.Io.KnownBytes.{Consumes}
use Rattle.std.specs.Global.{Vec}
use Rattle.engine_support.specs.declared.fault.Fault.{Fault}
use Rattle.engine_support.specs.declared.fault.Fault.TheVariants.{ReadFailed, WriteFailed, NoMemory, Refused}
use Rattle.engine_support.specs.Faults.{too_large, refused_at}
use Rattle.engine_support.specs.declared.input.TheConstants.{CHUNK_BYTES, INPUT_BYTES}
use Rattle.texts.specs.Results.{map_err}
use Rattle.recorder.specs.declared.faults.AtByte.{AtByte}
use Rattle.recorder.specs.Reading.{schedule_number}
use Rattle.recorder.specs.Versions.{ScheduleValue, SaysSchedule, schedule_at}
use Rattle.engine_support.specs.declared.fault.Position.TheVariants.{Byte}
use Rattle.litmus.specs.LitmusTests.{LitmusTest}
use Rattle.litmus_reader.specs.declared.faults.LitmusFault.{LitmusFault}
use Rattle.litmus_reader.specs.Faults.{litmus_number}
use Rattle.litmus_reader.specs.Reading.{Content, test_at}
use Rattle.litmus_reader.specs.Grammar.{IsTestOf}

-- What an input may be: which texts say which value, and why an input is refused.
pub record Format (V : Type 0) : Type 1 where
  pub Says : List ℕ → V → Type 0
  pub Refuses : List ℕ → Refusal → Type 0

-- of texts within the limit that say a value, else are refused for their first fault
abbrev pub format : {V W : Type 0} → (List ℕ → V → Type 0) → (value_at : List ℕ → Result W Refusal) → Format V
format Says value_at = record { Says = Says; Refuses = λ input refusal. decoded value_at input ≡ Err refusal }

-- the input's value, or why it is refused
abbrev pub IsReadAs : {V : Type 0} → Format V → List ℕ → Result V Refusal → Type 0
IsReadAs form input (Ok value) = AcceptedInput form.Says input value
IsReadAs form input (Err refusal) = form.Refuses input refusal

-- the same of what a reader tells
abbrev pub Reads : {V : Type 0} → Format V → Option (List ℕ) → Result V Refusal → Type 0
Reads form input given = OfInput input (λ bytes. IsReadAs form bytes given)

-- a reader's bytes are known, and refused
abbrev pub IsRefused : {V : Type 0} → Format V → Option (List ℕ) → Type 0
IsRefused form input = IsSomeAnd input (λ bytes. (refusal : Refusal) × form.Refuses bytes refusal)

-- What answers an input, and what is read after it: its refusal, or what holds of its value and of the answer. Where a
-- reader doesn't tell its bytes, they are some.
pub data After {V A : Type 0} (form : Format V) (input : Option (List ℕ)) (Next : V → Result A Refusal → Type 0) : Result A Refusal → Type 0 where
  refused : (refusal : Refusal) → Reads form input (Err refusal) → After form input Next (Err refusal)
  read : (value : V) (answer : Result A Refusal) → Reads form input (Ok value) → Next value answer → After form input Next answer

-- ---- what is read of a reader whose bytes are known

-- all of the bytes; refused only as too large, and only past the limit
abbrev pub IsInput : List ℕ → Result (Vec ℕ) Fault → Type 0
IsInput bytes (Ok input) = input.items ≡ bytes
IsInput bytes (Err (Refused refusal)) = (refusal ≡ too_large) × (INPUT_BYTES < length bytes)
IsInput bytes (Err ReadFailed) = Unit {0}
IsInput bytes (Err NoMemory) = Unit {0}
IsInput bytes (Err WriteFailed) = ⊥

-- A reader gave up at most the bytes of the largest input and one chunk, so one that gives more is refused soon
-- after the limit.
abbrev pub TakesFew : (before after : Option (List ℕ)) → Type 0
TakesFew before after = (bytes : List ℕ) × Consumes before after bytes × (length bytes ≤ INPUT_BYTES + CHUNK_BYTES)

-- What is kept of a line: all of it, or of one that is longer than an input may be, one byte more than such an input has.
abbrev pub kept_of : (line : List ℕ) → List ℕ
kept_of line = take (INPUT_BYTES + 1) line

-- ---- inputs that are schedules, of either version

-- a fault of a schedule is refused at its byte, by its number
abbrev pub refused_at_byte : AtByte → Refusal
refused_at_byte refusal = record { number = schedule_number refusal.fault; place = Byte refusal.place }

abbrev pub refused_schedule : {V : Type 0} → Result V AtByte → Result V Refusal
refused_schedule result = map_err refused_at_byte result

-- what a schedule says, or its refusal
unfoldable pub schedule_of : List ℕ → Result ScheduleValue Refusal
schedule_of text = refused_schedule (schedule_at text)

-- inputs that are schedules of either version
abbrev pub schedules : Format ScheduleValue
schedules = format SaysSchedule schedule_of

-- ---- inputs that are litmus texts

-- a fault of a litmus text, refused by its number at this line
abbrev pub refused_test : {V : Type 0} → (line : ℕ) → Result V LitmusFault → Result V Refusal
refused_test line result = map_err (λ fault. refused_at litmus_number (record { fault = fault; line = line })) result

-- what a litmus text has for its test, or its refusal, where its first fault is on this line
unfoldable pub test_of : (line : ℕ) → List ℕ → Result Content Refusal
test_of line text = refused_test line (test_at text)

-- This is why the input is no test. Which fault of its text comes first is said, and not on which line.
abbrev pub IsNoTest : List ℕ → Refusal → Type 0
IsNoTest input refusal = (line : ℕ) × (decoded (test_of line) input ≡ Err refusal)

-- inputs that are litmus texts, by what is read of them
abbrev pub litmus_texts : {V : Type 0} → (Says : List ℕ → V → Type 0) → Format V
litmus_texts Says = record { Says = Says; Refuses = IsNoTest }

-- their tests, and these with what else the texts tell
abbrev pub tests : Format LitmusTest
tests = litmus_texts IsTestOf

abbrev pub tests_with : {X : Type 0} → (Tells : List ℕ → X → Type 0) → Format (LitmusTest × X)
tests_with Tells = litmus_texts (λ text read. IsTestOf text read.0 × Tells text read.1)

-- ---- the lines of an input with their ends, so that nothing of the input is lost

-- a byte before the first of some lines, or by itself where there is none
abbrev pub before_lines : ℕ → List (List ℕ) → List (List ℕ)
before_lines byte [] = (byte ∷ []) ∷ []
before_lines byte (line ∷ others) = (byte ∷ line) ∷ others

-- the lines of an input, each with the LF (10) that ends it; after the last line there may be none
abbrev pub whole_lines : List ℕ → List (List ℕ)
whole_lines [] = []
whole_lines (byte ∷ bytes) = if byte == 10 then (byte ∷ []) ∷ whole_lines bytes else before_lines byte (whole_lines bytes)
