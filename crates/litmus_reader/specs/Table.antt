-- The table: each hart's column of cells is an assembly text, a line for each row.
use Rattle.std.specs.Prelude.{ℕ, ◌^◌, ◌<◌, ◌≤◌, ◌==◌, nat_lt, List, [], ◌∷◌, length, map, replicate, All, Option, None, Some, Result, Ok, Err, if◌then◌else◌}
use Rattle.std.specs.declared.vec.Vec.{Vec}
use Rattle.std.specs.declared.alloc.Global.{Global}
use Rattle.texts.specs.Results.{◌>>=◌, map_err}
use Rattle.texts.specs.Cutting.{before, after, is_byte}
use Rattle.rv_decode.specs.declared.instruction.Instr.{Instr}
use Rattle.rv_decode.specs.Meaning.{meaning}
use Rattle.rv_decode.specs.declared.instruction.TheConstants.{MAX_CODE}
use Rattle.assembler.specs.Drafts.{Refusal, Line, word_count, drafted, all_instructions, AllPlain}
use Rattle.litmus_reader.specs.declared.faults.LitmusFault.{LitmusFault}
use Rattle.litmus_reader.specs.declared.faults.LitmusFault.TheVariants.{BadTable, BadInstr, TooMany}
use Rattle.litmus_reader.specs.declared.marks.Mark.TheVariants.{Visible}
use Rattle.litmus_reader.specs.Marks.{from_line}
use Rattle.texts.specs.Pieces.{pieces_after}
use Rattle.litmus_reader.specs.Rows.{is_blank_line, row_in, cells_of, harts_in}
use Rattle.texts.specs.declared.pieces.Separators.TheVariants.{Byte}

-- a hart's statements so far
abbrev pub Column : Type 0
Column = List Line

-- whatever the assembler refuses
abbrev pub as_instr : {A : Type 0} → Result A Refusal → Result A LitmusFault
as_instr result = map_err (λ refusal. BadInstr) result

abbrev pub in_limit : Column → Result Column LitmusFault
in_limit column = if nat_lt MAX_CODE (word_count column) then Err TooMany else Ok column

-- a column with one more cell; one that is no statement is `BadInstr`, and one with which the code is too
-- long `TooMany`
unfoldable pub cell_added : Column → List ℕ → Result Column LitmusFault
cell_added column cell = do
  more ← as_instr (drafted column cell)
  in_limit more

-- the columns with a cell more each, from the left
abbrev pub cells_added : List Column → List (List ℕ) → Result (List Column) LitmusFault
cells_added [] cells = Ok []
cells_added (column ∷ columns) [] = Ok (column ∷ columns)
cells_added (column ∷ columns) (cell ∷ cells) = do
  more ← cell_added column cell
  others ← cells_added columns cells
  Ok (more ∷ others)

abbrev pub row_added : List Column → Option (List ℕ) → Result (List Column) LitmusFault
row_added columns None = Err BadTable
row_added columns (Some row) = if length (cells_of row) == length columns then cells_added columns (cells_of row) else Err BadTable

-- the columns with a row more, or with none in a blank line
unfoldable pub line_added : List Column → List ℕ → Result (List Column) LitmusFault
line_added columns line = if is_blank_line line then Ok columns else row_added columns (row_in line)

abbrev pub lines_added : List Column → List (List ℕ) → Result (List Column) LitmusFault
lines_added columns [] = Ok columns
lines_added columns (line ∷ lines) = do
  more ← line_added columns line
  lines_added more lines

abbrev pub table_from : Option (List ℕ) → Result (List Column) LitmusFault
table_from None = Err BadTable
table_from (Some text) = do
  harts ← harts_in (before (is_byte 10) text)
  lines_added (replicate harts []) (pieces_after (Byte 10) (after (is_byte 10) text))

-- the columns of a table, whose first row is the first line that isn't blank
unfoldable pub table_at : List ℕ → Result (List Column) LitmusFault
table_at text = table_from (from_line Visible text)

-- ---- instructions

abbrev pub Code : Type 0
Code = List (Option Instr)

-- the instructions of all columns, with the places of their labels
abbrev pub codes_of : List Column → Result (List Code) LitmusFault
codes_of [] = Ok []
codes_of (column ∷ columns) = do
  code ← as_instr (all_instructions column)
  codes ← codes_of columns
  Ok (code ∷ codes)

-- the instructions of the harts' words
abbrev pub instructions_of : List (Vec ℕ Global) → List Code
instructions_of codes = map (λ (words : Vec ℕ Global). map meaning words.items) codes

abbrev pub instructions : Vec (Vec ℕ Global) Global → List Code
instructions codes = instructions_of codes.items

-- words of 32 bits, and the fields of each that decide nothing are zero
abbrev pub IsPlainCode : List ℕ → Type 0
IsPlainCode words = AllPlain words × All (λ word. word < 2 ^ 32) words

abbrev pub ArePlain : List (Vec ℕ Global) → Type 0
ArePlain codes = All (λ (words : Vec ℕ Global). IsPlainCode words.items) codes

-- no hart has more words than it may have
abbrev pub AreShort : List Code → Type 0
AreShort [] = Unit {0}
AreShort (code ∷ codes) = (length code ≤ MAX_CODE) × AreShort codes
