-- The table: a row that names the harts, and rows of their statements.
use Rattle.std.specs.Prelude.{◌≡◌, ℕ, ◌+◌, ◌≤◌, List, [], ◌∷◌, ◌++◌, length, map, Some}
use Rattle.std.specs.List.{slice_index_or}
use Rattle.std.specs.Fmt.{decimal}
use Rattle.rv_decode.specs.declared.instruction.Instr.{Instr}
use Rattle.texts.specs.Cutting.{AreBlanks, trimmed}
use Rattle.assembler.specs.Drafts.{Line}
use Rattle.assembler.specs.Program.{AreLines, AreInstrs}
use Rattle.litmus_reader.specs.Table.{Code}
use Rattle.texts.specs.Pieces.{pieces}
use Rattle.texts.specs.declared.pieces.Separators.TheVariants.{Byte}
use Rattle.litmus_reader.specs.Layout.{HasNo, IsCut, IsFirst, IsVisible}
use Rattle.step_machine.specs.declared.opening.TheConstants.{MAX_HARTS}

abbrev pub Cells : Type 0
Cells = List (List ℕ)

-- cells, with `|` (124) between them, and one `;` (59) at the end
abbrev pub IsRow : List ℕ → Cells → Type 0
IsRow line cells = (row blanks : List ℕ) × HasNo 59 row × AreBlanks blanks × (line ≡ row ++ 59 ∷ blanks) × (cells ≡ pieces (Byte 124) row)

-- `P` (80) and the harts' numbers in order, from this one on, with blanks round each or none
abbrev pub AreNames : ℕ → Cells → Type 0
AreNames hart [] = Unit {0}
AreNames hart (cell ∷ cells) = (trimmed cell ≡ 80 ∷ decimal hart) × AreNames (hart + 1) cells

-- The rows below, each with a cell for each hart; blank lines say nothing.
pub data AreRows (harts : ℕ) : List (List ℕ) → List Cells → Type 0 where
  none : AreRows harts [] []
  blank : (line : List ℕ) (lines : List (List ℕ)) (rows : List Cells) → AreBlanks line → AreRows harts lines rows → AreRows harts (line ∷ lines) rows
  row : (line : List ℕ) (lines : List (List ℕ)) (cells : Cells) (rows : List Cells) → IsRow line cells
      → length cells ≡ harts → AreRows harts lines rows → AreRows harts (line ∷ lines) (cells ∷ rows)

-- Its first row is the first line that isn't blank.
pub record IsTable (table : List ℕ) (harts : ℕ) (rows : List Cells) : Type 0 where
  pub blank_lines : List ℕ
  pub from : List ℕ
  pub first : List ℕ
  pub below : List ℕ
  pub names : Cells
  pub begins : IsFirst IsVisible table blank_lines from
  pub cut : IsCut from first below
  pub row : IsRow first names
  pub named : AreNames 0 names
  pub counted : length names ≡ harts
  pub few : harts ≤ MAX_HARTS
  pub written : AreRows harts (pieces (Byte 10) below) rows

-- the cells of a hart, from the top
abbrev pub column_of : ℕ → List Cells → List (List ℕ)
column_of hart rows = map (λ (cells : Cells). slice_index_or cells hart []) rows

-- the hart's cells are the lines of a program of these instructions
abbrev pub IsColumnCode : List (List ℕ) → Code → Type 0
IsColumnCode cells code = (all : List Line) × (instrs : List Instr) × AreLines cells all × AreInstrs all instrs × (code ≡ map Some instrs)
