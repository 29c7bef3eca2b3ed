-- Where a test's code stands in its text: the rows of the table with their lines, and what each cell defines and makes.
use Rattle.std.specs.Prelude.{ℕ, ◌+◌, ◌-◌, List, [], ◌∷◌, ◌++◌, length, take, drop, map, Option, Some, None, Result, Ok, Err}
use Rattle.std.specs.List.{count_by}
use Rattle.texts.specs.Results.{◌>>=◌}
use Rattle.texts.specs.Cutting.{after, is_byte}
use Rattle.texts.specs.Pieces.{pieces}
use Rattle.texts.specs.declared.pieces.Separators.TheVariants.{Byte}
use Rattle.assembler.specs.Drafts.{Refusal, Line, word_count, drafted}
use Rattle.assembler.specs.Lines.{label_of}
use Rattle.litmus_tokens.specs.Cleaning.{cleaned_text}
use Rattle.litmus_reader.specs.declared.faults.LitmusFault.{LitmusFault}
use Rattle.litmus_reader.specs.declared.marks.Mark.TheVariants.{Condition}
use Rattle.litmus_reader.specs.Marks.{before_line}
use Rattle.litmus_reader.specs.Header.{after_header, after_brace}
use Rattle.litmus_reader.specs.Init.{after_init}
use Rattle.litmus_reader.specs.Rows.{indent, row_in, cells_of}

-- ---- a row

-- the label that a cell defines, if it does, and how many words its statement makes
pub record CellOf : Type 0 where
  pub label : Option (List ℕ)
  pub words : ℕ

-- the line of the text on which a row stands, counted from 1, and its cells
pub record ListedRowOf : Type 0 where
  pub line : ℕ
  pub cells : List CellOf

-- what is no statement makes no word, as the cells of the row that names the harts
abbrev pub words_made : Result (List Line) Refusal → ℕ
words_made (Ok lines) = word_count lines
words_made (Err refusal) = 0

abbrev pub cell_of : List ℕ → CellOf
cell_of cell = record { label = label_of cell; words = words_made (drafted [] cell) }

-- a line of the table, which is a row or blank
abbrev pub row_on : (line : ℕ) → Option (List ℕ) → List ListedRowOf
row_on line None = []
row_on line (Some row) = (record { line = line; cells = map cell_of (cells_of row) }) ∷ []

-- ---- lines of the text

-- how many lines end in a text's first bytes
abbrev pub ends_in : (bytes : ℕ) → List ℕ → ℕ
ends_in bytes text = count_by (is_byte 10) (take bytes text)

-- The rows among the lines of a table, whose comments are blanks, where the table begins after this number of line ends and
-- the text goes on like this. A comment may join lines of the text: a row is on the line of its first byte that is no blank.
abbrev pub rows_from : (above : ℕ) → (text : List ℕ) → (table : List (List ℕ)) → List ListedRowOf
rows_from above text [] = []
rows_from above text (row ∷ below) =
    row_on (above + ends_in (indent row) text + 1) (row_in row)
    ++ rows_from (above + ends_in (length row) text + 1) (drop (length row + 1) text) below

-- ---- the text

-- what stands after the init part
unfoldable pub after_items : List ℕ → Result (List ℕ) LitmusFault
after_items text = do
  below ← after_header text
  inner ← after_brace below
  after_init (after (is_byte 125) inner)

-- the rows of the table that begins after this number of bytes of the text
abbrev pub table_rows : (text : List ℕ) → (bytes : ℕ) → (table : List ℕ) → List ListedRowOf
table_rows text bytes table = rows_from (ends_in bytes text) (drop bytes text) (pieces (Byte 10) table)

unfoldable pub listing_in : (text clean : List ℕ) → Result (List ListedRowOf) LitmusFault
listing_in text clean = do
  rest ← after_items clean
  Ok (table_rows text (length clean - length rest) (before_line Condition rest))

-- the rows of a text's table, the row that names the harts first, or the first fault that is met on the way to them
unfoldable pub listing_at : List ℕ → Result (List ListedRowOf) LitmusFault
listing_at text = listing_in text (cleaned_text text)
