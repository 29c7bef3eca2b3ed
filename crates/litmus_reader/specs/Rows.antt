-- The shape of a table's rows.
use Rattle.std.specs.Prelude.{ℕ, ◌+◌, ◌-◌, ◌==◌, Bool, true, ◌&&◌, nat_lt, List, [], ◌∷◌, length, Option, None, Some, Result, Ok, Err, if◌then◌else◌}
use Rattle.std.specs.Str.{bytes_eq}
use Rattle.std.specs.Fmt.{decimal}
use Rattle.texts.specs.Results.{◌>>=◌}
use Rattle.texts.specs.Cutting.{before, after, is_byte, without_front, trimmed}
use Rattle.texts.specs.Pieces.{pieces}
use Rattle.litmus_reader.specs.declared.faults.LitmusFault.{LitmusFault}
use Rattle.litmus_reader.specs.declared.faults.LitmusFault.TheVariants.{BadTable, TooMany}
use Rattle.texts.specs.declared.pieces.Separators.TheVariants.{Byte}
use Rattle.step_machine.specs.declared.opening.TheConstants.{MAX_HARTS}

abbrev pub is_blank_line : List ℕ → Bool
is_blank_line line = length (without_front line) == 0

-- how many blanks a line begins with
abbrev pub indent : List ℕ → ℕ
indent line = length line - length (without_front line)

abbrev pub ended_by : List ℕ → Option (List ℕ) → Option (List ℕ)
ended_by cells None = None
ended_by cells (Some rest) = if is_blank_line rest then Some cells else None

-- what stands before the one `;` that ends the row
unfoldable pub row_in : List ℕ → Option (List ℕ)
row_in line = ended_by (before (is_byte 59) line) (after (is_byte 59) line)

-- the cells, which `|` parts
abbrev pub cells_of : List ℕ → List (List ℕ)
cells_of row = pieces (Byte 124) row

-- `P` and the hart's number
abbrev pub names_hart : ℕ → List ℕ → Bool
names_hart hart cell = bytes_eq (trimmed cell) (80 ∷ decimal hart)

-- the cells name the harts in order, from this one on
abbrev pub name_harts : ℕ → List (List ℕ) → Bool
name_harts hart [] = true
name_harts hart (cell ∷ cells) = names_hart hart cell && name_harts (hart + 1) cells

abbrev pub harts_within : ℕ → Result ℕ LitmusFault
harts_within harts = if nat_lt MAX_HARTS harts then Err TooMany else Ok harts

abbrev pub all_named : List (List ℕ) → Result ℕ LitmusFault
all_named cells = if name_harts 0 cells then Ok (length cells) else Err BadTable

abbrev pub harts_of : Option (List ℕ) → Result ℕ LitmusFault
harts_of None = Err BadTable
harts_of (Some row) = do
  harts ← harts_within (length (cells_of row))
  all_named (cells_of row)

-- how many harts the first row names; its cells are counted before they are judged
unfoldable pub harts_in : List ℕ → Result ℕ LitmusFault
harts_in line = harts_of (row_in line)
