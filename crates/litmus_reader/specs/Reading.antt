-- A litmus text, read from its first line on, with the first fault that is met. Its place is no part
-- of the answer.
use Rattle.std.specs.Prelude.{ℕ, List, [], ◌∷◌, length, map, Option, Result, Ok}
use Rattle.texts.specs.Results.{◌>>=◌}
use Rattle.texts.specs.Cutting.{before, after, is_byte}
use Rattle.rv_decode.specs.Meaning.{meaning}
use Rattle.step_machine.specs.History.{HartOpeningValue}
use Rattle.litmus.specs.declared.verdict.Quantifier.{Quantifier}
use Rattle.litmus.specs.Formulas.{Formula}
use Rattle.litmus.specs.LitmusTests.{LitmusTest}
use Rattle.litmus_tokens.specs.Cleaning.{cleaned_text}
use Rattle.litmus_reader.specs.declared.faults.LitmusFault.{LitmusFault}
use Rattle.litmus_reader.specs.declared.marks.Mark.TheVariants as mark
use Rattle.litmus_reader.specs.Marks.{before_line, from_line}
use Rattle.litmus_reader.specs.Header.{after_header, after_brace}
use Rattle.litmus_reader.specs.Locations.{Names}
use Rattle.litmus_reader.specs.Init.{InitItems, items_at, after_init}
use Rattle.litmus_reader.specs.Table.{Code, table_at, codes_of}
use Rattle.litmus_reader.specs.Values.{Values, values_at, padded}
use Rattle.litmus_reader.specs.Condition.{Condition, condition_at}

-- A hart's beginning, with its code as the instructions that the words mean.
pub record HartContent : Type 0 where
  pub code : Code
  pub registers : List ℕ
  pub inbox : List ℕ

-- A test, with its code as instructions.
pub record Content : Type 0 where
  pub harts : List HartContent
  pub words : List ℕ
  pub names : Names
  pub quantifier : Quantifier
  pub condition : Formula

abbrev pub hart_content : HartOpeningValue → HartContent
hart_content hart = record { code = map meaning hart.code; registers = hart.registers; inbox = hart.inbox }

abbrev pub content_of : LitmusTest → Content
content_of test = record {
  harts = map hart_content test.opening.harts;
  words = test.opening.words;
  names = test.names;
  quantifier = test.quantifier;
  condition = test.condition;
}

-- each hart's code with its registers; nothing is in an inbox
abbrev pub with_registers : List Code → List (List ℕ) → List HartContent
with_registers [] registers = []
with_registers (code ∷ codes) [] = []
with_registers (code ∷ codes) (first ∷ registers) = (record { code = code; registers = first; inbox = [] }) ∷ with_registers codes registers

abbrev pub content : List Code → Values → Condition → Content
content codes values condition = record {
  harts = with_registers codes values.registers;
  words = padded (length condition.names) values.words;
  names = condition.names;
  quantifier = condition.quantifier;
  condition = condition.formula;
}

-- the test whose table has this code, with the condition from its first line on
unfoldable pub content_below : InitItems → List Code → Option (List ℕ) → Result Content LitmusFault
content_below resolved_items codes condition = do
  values ← values_at (length codes) resolved_items
  condition_text ← condition_at (length codes) resolved_items.names condition
  Ok (content codes values condition_text)

-- the test with this init part, with what stands after it: the table and the condition
unfoldable pub content_after : InitItems → List ℕ → Result Content LitmusFault
content_after resolved_items text = do
  columns ← table_at (before_line mark.Condition text)
  codes ← codes_of columns
  content_below resolved_items codes (from_line mark.Condition text)

-- the test in a text without comments
unfoldable pub content_at : List ℕ → Result Content LitmusFault
content_at text = do
  below ← after_header text
  inner ← after_brace below
  resolved_items ← items_at (before (is_byte 125) inner)
  rest ← after_init (after (is_byte 125) inner)
  content_after resolved_items rest

-- the test in a text, or the first fault in reading order
unfoldable pub test_at : List ℕ → Result Content LitmusFault
test_at text = content_at (cleaned_text text)
