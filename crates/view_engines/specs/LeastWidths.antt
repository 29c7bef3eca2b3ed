-- How wide a test's columns are at least in a chart: as the rows of its instructions take where values have one digit, a
-- location has the longest name, and rows' numbers have no more digits than in a run that does each instruction once.
use Rattle.std.specs.Prelude.{ℕ, ◌+◌, ◌*◌, ◌==◌, min, max, if◌then◌else◌, Bool, true, false}
use Rattle.std.specs.Prelude.{List, [], ◌∷◌, length, map, codes, option_map, unwrap_or}
use Rattle.std.specs.List.{flat_map, count_by, range_with_len}
use Rattle.std.specs.Fmt.{decimal}
use Rattle.assembler.specs.Writing.{text_of}
use Rattle.rv_decode.specs.Meaning.{meaning}
use Rattle.rv_decode.specs.declared.instruction.Instr.{Instr}
use Rattle.rv_decode.specs.declared.instruction.Instr.TheVariants.{Load, Store, Amo, Fence, FenceTso, Ecall}
use Rattle.hart.specs.Effects.{load_width, store_width}
use Rattle.step_machine.specs.History.{HartOpeningValue}
use Rattle.chart.specs.declared.least_widths.LeastWidths.{LeastWidths}
use Rattle.chart.specs.Sayings.{word_name}

-- ---- an instruction, with a name of `name` cells and a row's number of `number` cells

-- `+1`, where not a whole word is named
abbrev pub offset_cells : (width : ℕ) → ℕ
offset_cells width = if width == 4 then 0 else length (codes "+1")

-- what its row says after it
abbrev pub effect_cells : (name number : ℕ) → Instr → ℕ
effect_cells name number (Load op rd rs1 offset) = name + offset_cells (load_width op) + length (codes " = 1 [mem ]") + number
effect_cells name number (Store op rs1 rs2 offset) = name + offset_cells (store_width op) + length (codes " := 1")
effect_cells name number (Amo op rd rs1 rs2 aq rl) = name + length (codes ": 0 -> 1 [mem ]") + number
effect_cells name number (Fence pred succ) = length (codes "not full")
effect_cells name number FenceTso = length (codes "not full")
effect_cells name number Ecall = length (codes "ended")
effect_cells name number other = 0

-- its row: the instruction, a gap and what the row says after it
abbrev pub row_cells : (name number : ℕ) → Instr → ℕ
row_cells name number instr = length (text_of instr) + 2 + effect_cells name number instr

-- what it leaves in memory's column
abbrev pub memory_column_cells : (name number : ℕ) → Instr → ℕ
memory_column_cells name number (Store op rs1 rs2 offset) = name + offset_cells (store_width op) + length (codes " = 1 []") + number
memory_column_cells name number (Amo op rd rs1 rs2 aq rl) = name + length (codes " = 1")
memory_column_cells name number other = 0

abbrev pub is_store_instruction : Instr → Bool
is_store_instruction (Store op rs1 rs2 offset) = true
is_store_instruction other = false

-- ---- a word of code, which may mean no instruction

abbrev pub label_of_word : (name number word : ℕ) → ℕ
label_of_word name number word = unwrap_or (option_map (row_cells name number) (meaning word)) 0

abbrev pub brief_of_word : (name number word : ℕ) → ℕ
brief_of_word name number word = unwrap_or (option_map (effect_cells name number) (meaning word)) 0

abbrev pub kept_of_word : (name number word : ℕ) → ℕ
kept_of_word name number word = unwrap_or (option_map (memory_column_cells name number) (meaning word)) 0

abbrev pub is_store_word : ℕ → Bool
is_store_word word = unwrap_or (option_map is_store_instruction (meaning word)) false

-- ---- a test

-- the most that f gives for an element; 0 where there is none
abbrev pub most : {A : Type 0} → (A → ℕ) → List A → ℕ
most f [] = 0
most f (x ∷ xs) = max (f x) (most f xs)

-- the locations' names, as rows write them
abbrev pub written_names : List (List ℕ) → List (List ℕ)
written_names names = map (λ place. word_name names (4 * place)) (range_with_len 0 (length names))

abbrev pub name_cells : List (List ℕ) → ℕ
name_cells names = min (most length (written_names names)) 255

abbrev pub store_count : List ℕ → ℕ
store_count words = count_by is_store_word words

-- the cells of the number of the last row, where each instruction has a row and each store lands
abbrev pub number_cells : List ℕ → ℕ
number_cells words = length (decimal (length words + store_count words))

abbrev pub widths_with : (name number lanes : ℕ) → (words : List ℕ) → LeastWidths
widths_with name number lanes words = record {
  label = min (most (label_of_word name number) words) 255;
  brief = min (most (brief_of_word name number) words) 255;
  kept = min (most (kept_of_word name number) words) 255;
  lanes = lanes;
  listed_lanes = min (store_count words) 255;
}

abbrev pub all_code : List HartOpeningValue → List ℕ
all_code harts = flat_map (λ hart. hart.code) harts

-- a lane for each store of one hart, and of all
abbrev pub least_widths : (names : List (List ℕ)) → List HartOpeningValue → LeastWidths
least_widths names harts =
    widths_with (name_cells names) (number_cells (all_code harts)) (min (most (λ hart. store_count hart.code) harts) 255) (all_code harts)
