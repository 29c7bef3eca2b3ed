-- A test as lines, each of which says one thing: its harts with their code, the locations, and the condition.
use Rattle.std.specs.Prelude.{ℕ, ◌+◌, ◌*◌, List, [], ◌∷◌, ◌++◌, length, take, drop, map, codes, Option, Some, None, unwrap_or}
use Rattle.std.specs.List.{flat_map, slice_get, slice_index_or}
use Rattle.std.specs.Fmt.{decimal}
use Rattle.texts.specs.Numbers.{hex_word}
use Rattle.rv_decode.specs.Meaning.{meaning}
use Rattle.step_machine.specs.History.{HartOpeningValue}
use Rattle.litmus.specs.declared.symbols.Place.{Place}
use Rattle.litmus.specs.LitmusTests.{LitmusTest, left_sides}
use Rattle.litmus_reader.specs.Headings.{HeadingOf}
use Rattle.litmus_reader.specs.Listings.{CellOf, ListedRowOf}
use Rattle.chart.specs.Pictures.{shown_byte}
use Rattle.engine_support.specs.Outcomes.{place_text}
use Rattle.view_engines.specs.About.{meant}
use Rattle.engine_support.specs.OpeningTexts.{numbered, registers_text}

-- ---- code

-- how a line of a hart's code begins: with a word, the hart, the pc and the line of the text
abbrev pub code_front : (word : List ℕ) → (hart pc line : ℕ) → List ℕ
code_front word hart pc line = word ++ decimal hart ++ codes " " ++ decimal pc ++ codes " " ++ decimal line ++ codes " "

abbrev pub label_line : (hart pc line : ℕ) → Option (List ℕ) → List ℕ
label_line hart pc line None = []
label_line hart pc line (Some name) = code_front (codes "label ") hart pc line ++ map shown_byte name ++ 10 ∷ []

-- a word with the instruction that it means
abbrev pub code_word_line : (hart pc line word : ℕ) → List ℕ
code_word_line hart pc line word = code_front (codes "code ") hart pc line ++ hex_word word ++ codes " " ++ meant (meaning word) ++ 10 ∷ []

-- words of code, the first one at this pc
abbrev pub code_word_lines : (hart pc line : ℕ) → (words : List ℕ) → List ℕ
code_word_lines hart pc line [] = []
code_word_lines hart pc line (word ∷ words) = code_word_line hart pc line word ++ code_word_lines hart (pc + 4) line words

-- the cell of a hart in a row, which defines and makes nothing where it is missing
abbrev pub cell_in : ListedRowOf → (hart : ℕ) → CellOf
cell_in row hart = unwrap_or (slice_get row.cells hart) (record { label = None; words = 0 })

-- the lines of a cell, whose words are the first of these
abbrev pub cell_lines : (hart pc line : ℕ) → CellOf → (words : List ℕ) → List ℕ
cell_lines hart pc line cell words = label_line hart pc line cell.label ++ code_word_lines hart pc line (take cell.words words)

-- the lines of a hart's cells in these rows, of whose words the first one stands at this pc
abbrev pub column_lines : (hart pc : ℕ) → (words : List ℕ) → List ListedRowOf → List ℕ
column_lines hart pc words [] = []
column_lines hart pc words (row ∷ rows) =
    cell_lines hart pc row.line (cell_in row hart) words
    ++ column_lines hart (pc + 4 * length (take (cell_in row hart).words words)) (drop (cell_in row hart).words words) rows

-- ---- harts

abbrev pub hart_head : (hart : ℕ) → List ℕ
hart_head hart = codes "hart " ++ decimal hart ++ 10 ∷ []

abbrev pub hart_lines : List ListedRowOf → (hart : ℕ) → HartOpeningValue → List ℕ
hart_lines rows hart start = hart_head hart ++ column_lines hart 0 start.code rows ++ registers_text hart start.registers

-- ---- locations and the condition

abbrev pub location_line : (words : List ℕ) → (place : ℕ) → (name : List ℕ) → List ℕ
location_line words place name = codes "location " ++ decimal (4 * place) ++ codes " " ++ decimal (slice_index_or words place 0) ++ codes " " ++ name ++ 10 ∷ []

abbrev pub left_line : (names : List (List ℕ)) → Place → List ℕ
left_line names place = codes "left " ++ place_text names place ++ 10 ∷ []

-- a line with bytes of the text, as charts show them
abbrev pub text_line : (word bytes : List ℕ) → List ℕ
text_line word bytes = word ++ map shown_byte bytes ++ 10 ∷ []

-- ---- all of it

unfoldable pub test_lines : HeadingOf → List ListedRowOf → LitmusTest → List ℕ
test_lines heading rows test =
    text_line (codes "test ") heading.name
    ++ numbered (hart_lines rows) 0 test.opening.harts
    ++ numbered (location_line test.opening.words) 0 test.names
    ++ flat_map (left_line test.names) (left_sides test.condition)
    ++ text_line (codes "condition ") heading.condition
