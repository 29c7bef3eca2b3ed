-- Reading a steps text from the top, with the first fault that is met. A line's fault is the number of
-- its refusal.
use Rattle.std.specs.Prelude.{ℕ, ◌+◌, ◌/◌, ◌%◌, ◌==◌, nat_lt, nat_le, ◌||◌, not, if◌then◌else◌, List, [], ◌∷◌, ◌++◌}
use Rattle.std.specs.Prelude.{length, slice_set, Option, None, Some, Result, Ok, Err, codes}
use Rattle.std.specs.Str.{bytes_eq}
use Rattle.std.specs.Str.Lines.{lines}
use Rattle.texts.specs.Numbers.{word_of}
use Rattle.texts.specs.Results.{◌>>=◌, map_err}
use Rattle.step_machine.specs.History.{HartOpeningValue}
use Rattle.step_machine.specs.declared.events.Event.{Event}
use Rattle.step_machine.specs.declared.opening.TheConstants.{MAX_HARTS}
use Rattle.recorder.specs.declared.faults.AtByte.{AtByte}
use Rattle.recorder.specs.Reading.{schedule_number, tokens_after}
use Rattle.engine_support.specs.declared.fault.Refusal.{Refusal}
use Rattle.engine_support.specs.declared.fault.Position.TheVariants.{Nowhere}
use Rattle.code_engines.specs.declared.steps.line.Keyword.{Keyword}
use Rattle.code_engines.specs.declared.steps.line.Keyword.TheVariants as keyword
use Rattle.texts.specs.Cutting.{tokens, first_cut}
use Rattle.engine_support.specs.Faults.{bad_line, or_bad, at_line}
use Rattle.code_engines.specs.Asm.{code_at}
use Rattle.code_engines.specs.ScriptValue.{ScriptValue, no_script, fresh, register_set}
use Rattle.rv_decode.specs.declared.instruction.TheConstants.{MAX_CODE}

-- ---- the words after a keyword

-- the number that the first word says, and the words after it
unfoldable pub number_at : List (List ℕ) → Result (ℕ × List (List ℕ)) ℕ
number_at [] = Err bad_line
number_at (digits ∷ others) = do
  number ← or_bad (word_of digits)
  Ok (number, others)

-- a value after which no word is left
abbrev pub with_no_more : {A : Type 0} → A → List (List ℕ) → Result A ℕ
with_no_more x [] = Ok x
with_no_more x (digits ∷ others) = Err bad_line

unfoldable pub two_numbers : List (List ℕ) → Result (ℕ × ℕ) ℕ
two_numbers text = do
  a ← number_at text
  b ← number_at a.1
  with_no_more (a.0, b.0) b.1

unfoldable pub three_numbers : List (List ℕ) → Result (ℕ × ℕ × ℕ) ℕ
three_numbers text = do
  a ← number_at text
  bc ← two_numbers a.1
  Ok (a.0, bc.0, bc.1)

-- ---- what a line changes

unfoldable pub with_hart : List HartOpeningValue → List (List ℕ) → Result (List HartOpeningValue) ℕ
with_hart harts text = do
  code ← code_at text
  if nat_le MAX_HARTS (length harts) || nat_lt MAX_CODE (length code) then Err bad_line else Ok (harts ++ fresh code ∷ [])

unfoldable pub with_register : List HartOpeningValue → List (List ℕ) → Result (List HartOpeningValue) ℕ
with_register harts text = do
  numbers ← three_numbers text
  if nat_le (length harts) numbers.0 || (numbers.1 == 0) || nat_le 32 numbers.1 then Err bad_line else Ok (register_set harts numbers.0 numbers.1 numbers.2)

unfoldable pub with_word : List ℕ → List (List ℕ) → Result (List ℕ) ℕ
with_word memory text = do
  numbers ← two_numbers text
  if not (numbers.0 % 4 == 0) || nat_le (length memory) (numbers.0 / 4) then Err bad_line else Ok (slice_set memory (numbers.0 / 4) numbers.1)

-- a fault of tokens, by its number
abbrev pub with_fault_number : {A : Type 0} → Result A AtByte → Result A ℕ
with_fault_number result = map_err (λ refused. schedule_number refused.fault) result

unfoldable pub with_steps : List Event → List ℕ → Result (List Event) ℕ
with_steps events text = do
  more ← with_fault_number (tokens_after (length events) text)
  Ok (events ++ more)

-- ---- a line

abbrev pub keyword_named : List ℕ → Option Keyword
keyword_named name =
    if bytes_eq name (codes "hart") then Some keyword.Hart else
    (if bytes_eq name (codes "reg") then Some keyword.Register else
    (if bytes_eq name (codes "word") then Some keyword.Word else
    (if bytes_eq name (codes "steps") then Some keyword.Steps else None)))

abbrev pub by_keyword : ScriptValue → Option Keyword → List ℕ → Result ScriptValue ℕ
by_keyword t None rest = Err bad_line
by_keyword t (Some keyword.Hart) rest = do
  harts ← with_hart t.harts (tokens rest)
  Ok (record t { harts = harts })
by_keyword t (Some keyword.Register) rest = do
  harts ← with_register t.harts (tokens rest)
  Ok (record t { harts = harts })
by_keyword t (Some keyword.Word) rest = do
  memory ← with_word t.words (tokens rest)
  Ok (record t { words = memory })
by_keyword t (Some keyword.Steps) rest = do
  events ← with_steps t.events rest
  Ok (record t { events = events })

abbrev pub by_cut : ScriptValue → Option (List ℕ × List ℕ) → Result ScriptValue ℕ
by_cut t None = Ok t
by_cut t (Some cut) = by_keyword t (keyword_named cut.0) cut.1

-- the script after one more line; a line without a word adds nothing
unfoldable pub after_line : ScriptValue → List ℕ → Result ScriptValue ℕ
after_line t line = by_cut t (first_cut line)

-- ---- a text

-- the script after these lines, the first of which has this number
unfoldable pub after_lines : ScriptValue → (number : ℕ) → List (List ℕ) → Result ScriptValue Refusal
after_lines t number [] = Ok t
after_lines t number (line ∷ others) = do
  next ← at_line number (after_line t line)
  after_lines next (number + 1) others

-- a text without a hart is refused as a whole, where no line is
abbrev pub with_some_hart : ScriptValue → Result ScriptValue Refusal
with_some_hart t = if length t.harts == 0 then Err (record { number = bad_line; place = Nowhere }) else Ok t

-- what a steps text tells of a machine with M words, or its first fault
unfoldable pub script_at : (M : ℕ) → List ℕ → Result ScriptValue Refusal
script_at M text = do
  script ← after_lines (no_script M) 1 (lines text)
  with_some_hart script
