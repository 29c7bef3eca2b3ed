-- What a chart shows of a run beside its entries.
use Rattle.std.specs.Prelude.{ℕ, ◌≡◌, ◌/◌, if◌then◌else◌, List, [], length, map, codes, Option, Some, None, option_map}
use Rattle.std.specs.List.{slice_get, range_with_len}
use Rattle.rv_decode.specs.Meaning.{meaning}
use Rattle.rv_decode.specs.declared.instruction.Instr.{Instr}
use Rattle.assembler.specs.Writing.{text_of}
use Rattle.step_machine.specs.declared.events.Entry.{Entry}
use Rattle.step_machine.specs.History.{HartOpeningValue, History, up_to}
use Rattle.step_machine.specs.Entries.{hart_of, is_land}
use Rattle.step_machine.specs.Paths.{state_of}
use Rattle.litmus.specs.declared.symbols.Place.{Place}
use Rattle.litmus.specs.declared.verdict.Verdict.{Verdict}
use Rattle.litmus.specs.declared.verdict.Verdict.TheVariants.{Holds, Fails, Unfinished}
use Rattle.litmus.specs.LitmusTests.{LitmusTest, left_sides}
use Rattle.litmus.specs.Verdicts.{IsVerdict, final_value}
use Rattle.litmus_reader.specs.Headings.{HeadingOf}
use Rattle.chart.specs.Pictures.{shown_byte}
use Rattle.chart.specs.Layout.{AboutOf, LastValueOf}
use Rattle.engine_support.specs.Outcomes.{place_text}
use Rattle.view_engines.specs.LeastWidths.{least_widths}

-- ---- instructions

-- the text of an instruction, if a word means one
abbrev pub meant : Option Instr → List ℕ
meant None = []
meant (Some instr) = text_of instr

-- the text of a word of code, if there is one
abbrev pub word_meant : Option ℕ → List ℕ
word_meant None = []
word_meant (Some word) = meant (meaning word)

-- the word at a pc of a hart's code
abbrev pub word_at_pc : Option HartOpeningValue → (pc : ℕ) → Option ℕ
word_at_pc None pc = None
word_at_pc (Some hart) pc = slice_get hart.code (pc / 4)

abbrev pub instruction_there : Option HartOpeningValue → (pc : Option ℕ) → List ℕ
instruction_there hart None = []
instruction_there hart (Some pc) = word_meant (word_at_pc hart pc)

-- the instruction at hart h's pc, which is nothing where the pc is past the hart's code
abbrev pub next_instruction : (M : ℕ) → History → (h : ℕ) → List ℕ
next_instruction M t h = instruction_there (slice_get t.opening.harts h) (option_map (λ s. s.pc) (state_of M t h))

-- the instruction by which an entry comes about after a history; a landing has none
abbrev pub instruction_of : (M : ℕ) → History → Entry → List ℕ
instruction_of M t e = if is_land e then [] else next_instruction M t (hart_of e)

abbrev pub instruction_after : (M : ℕ) → History → Option Entry → List ℕ
instruction_after M t None = []
instruction_after M t (Some e) = instruction_of M t e

-- the instruction of a row's entry, which comes after those of the rows before it
abbrev pub instruction_of_row : (M : ℕ) → History → (row : ℕ) → List ℕ
instruction_of_row M t row = instruction_after M (up_to row t) (slice_get t.entries row)

-- the instruction of each entry
abbrev pub row_instructions : (M : ℕ) → History → List (List ℕ)
row_instructions M t = map (instruction_of_row M t) (range_with_len 0 (length t.entries))

-- ---- what the condition asks for

-- an observed location with its value after a history
abbrev pub last_value : (M : ℕ) → (names : List (List ℕ)) → History → Place → LastValueOf
last_value M names t p = record { left = place_text names p; value = final_value M t p }

abbrev pub verdict_name : Verdict → List ℕ
verdict_name Holds = codes "Holds"
verdict_name Fails = codes "Fails"
verdict_name Unfinished = codes "Unfinished"

-- ---- all of it

-- what is known of a test with this heading after a history, on which this is the verdict
abbrev pub about_of : (M : ℕ) → LitmusTest → HeadingOf → History → Verdict → AboutOf
about_of M test heading t verdict = record {
  name = map shown_byte heading.name;
  harts = length t.opening.harts;
  least = least_widths test.names t.opening.harts;
  names = test.names;
  instructions = row_instructions M t;
  values = map (last_value M test.names t) (left_sides test.condition);
  verdict = verdict_name verdict;
  condition = map shown_byte heading.condition;
}

abbrev pub IsAbout : (M : ℕ) → LitmusTest → HeadingOf → History → AboutOf → Type 0
IsAbout M test heading t about = (verdict : Verdict) × IsVerdict M test t verdict × (about ≡ about_of M test heading t verdict)
