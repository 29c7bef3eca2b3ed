-- The faults of an assembly text. A text, given line by line, and the first fault of it: those of the lines
-- from the top, then a text that is too long, and then the places of labels, from the top again.
use Rattle.std.specs.Prelude.{ℕ, ℤ, pos, ◌-ℤ◌, ◌+◌, ◌*◌, Bool, false, nat_lt, List, [], ◌∷◌, ◌++◌, length, Option, Some, None, Result, Ok, Err, if◌then◌else◌}
use Rattle.std.specs.Prelude.{IfSome}
use Rattle.texts.specs.declared.errors.AtLine.{AtLine}
use Rattle.assembler.specs.declared.faults.AsmFault.{AsmFault}
use Rattle.assembler.specs.declared.faults.AsmFault.TheVariants.{UnknownName, BadOperand, OutOfRange, NoSuchLabel, LabelTwice, TooLong}
use Rattle.std.specs.Str.{bytes_eq}
use Rattle.std.specs.Option.{is_some}
use Rattle.std.specs.Str.Lines.{lines}
use Rattle.texts.specs.Results.{◌>>=◌}
use Rattle.rv_decode.specs.Meaning.{meaning}
use Rattle.rv_decode.specs.Fits.{HasPlainFence}
use Rattle.rv_decode.specs.declared.instruction.Instr.{Instr}
use Rattle.rv_decode.specs.declared.instruction.Instr.TheVariants as instr
use Rattle.rv_decode.specs.declared.instruction.TheConstants.{MAX_CODE}
use Rattle.assembler.specs.Operands.{is_reached}
use Rattle.assembler.specs.Statements.{Made, one, two, jump, branch, MadeFits}
use Rattle.assembler.specs.Lines.{label_of, statement_text, made_in}

abbrev pub asm_number : AsmFault → ℕ
asm_number UnknownName = 2
asm_number BadOperand = 3
asm_number OutOfRange = 4
asm_number NoSuchLabel = 5
asm_number LabelTwice = 6
asm_number TooLong = 7

-- a fault and its line, counted from 1
abbrev pub Refusal : Type 0
Refusal = AtLine AsmFault

-- what a line defines and makes
pub record Line : Type 0 where
  pub label : Option (List ℕ)
  pub made : Option Made

-- how many words a statement makes
abbrev pub size_of : Option Made → ℕ
size_of None = 0
size_of (Some (two i j)) = 2
size_of other = 1

abbrev pub word_count : List Line → ℕ
word_count [] = 0
word_count (line ∷ rest) = size_of line.made + word_count rest

abbrev pub is_label : List ℕ → Option (List ℕ) → Bool
is_label name None = false
is_label name (Some other) = bytes_eq other name

abbrev pub place_from : List ℕ → ℕ → List Line → Option ℕ
place_from name at [] = None
place_from name at (line ∷ rest) = if is_label name line.label then Some at else place_from name (at + size_of line.made) rest

-- a label stands for the number of words before the line that defines it
unfoldable pub label_place : List Line → List ℕ → Option ℕ
label_place all name = place_from name 0 all

abbrev pub is_twice : List Line → Option (List ℕ) → Bool
is_twice above None = false
is_twice above (Some name) = is_some (label_place above name)

abbrev pub with_label : Option (List ℕ) → Result (Option Made) AsmFault → Result Line AsmFault
with_label label answer = do
  made ← answer
  Ok (record { label = label; made = made })

-- a line below the lines above, or its first fault
unfoldable pub line_below : List Line → List ℕ → Result Line AsmFault
line_below above text = if is_twice above (label_of text) then Err LabelTwice else with_label (label_of text) (made_in (statement_text text))

-- a fault comes with its line
abbrev pub refused_at_line : {A : Type 0} → ℕ → Result A AsmFault → Result A Refusal
refused_at_line line (Ok x) = Ok x
refused_at_line line (Err fault) = Err (record { fault = fault; line = line })

-- the lines above with one more
unfoldable pub drafted : List Line → List ℕ → Result (List Line) Refusal
drafted above text = do
  line ← refused_at_line (length above + 1) (line_below above text)
  Ok (above ++ line ∷ [])

abbrev pub all_drafted : List Line → List (List ℕ) → Result (List Line) Refusal
all_drafted above [] = Ok above
all_drafted above (text ∷ rest) = do
  more ← drafted above text
  all_drafted more rest

-- ---- the places of labels

abbrev pub in_bytes : ℕ → ℕ → ℤ
in_bytes at place = pos (4 * place) -ℤ pos (4 * at)

-- from the instruction at to the label, in bytes
abbrev pub distance : ℤ → ℕ → Option ℕ → Result ℤ AsmFault
distance bound at None = Err NoSuchLabel
distance bound at (Some place) = if is_reached bound (in_bytes at place) then Ok (in_bytes at place) else Err OutOfRange

-- the instructions of a statement at a place, where found gives the labels' places
abbrev pub placed_statement : (List ℕ → Option ℕ) → ℕ → Option Made → Result (List (Option Instr)) AsmFault
placed_statement found at None = Ok []
placed_statement found at (Some (one i)) = Ok (Some i ∷ [])
placed_statement found at (Some (two i j)) = Ok (Some i ∷ Some j ∷ [])
placed_statement found at (Some (jump rd name)) = do
  n ← distance (pos 1048576) at (found name)
  Ok (Some (instr.Jal rd n) ∷ [])
placed_statement found at (Some (branch op rs1 rs2 name)) = do
  n ← distance (pos 4096) at (found name)
  Ok (Some (instr.Branch op rs1 rs2 n) ∷ [])

-- what is in front of an answer
abbrev pub onto : {A E : Type 0} → List A → Result (List A) E → Result (List A) E
onto front answer = do
  more ← answer
  Ok (front ++ more)

abbrev pub all_placed : (List ℕ → Option ℕ) → (at line : ℕ) → List Line → Result (List (Option Instr)) Refusal
all_placed found at line [] = Ok []
all_placed found at line (first ∷ rest) = do
  front ← refused_at_line line (placed_statement found at first.made)
  onto front (all_placed found (at + size_of first.made) (line + 1) rest)

-- the first line whose words go past the limit
abbrev pub line_over : (at line : ℕ) → List Line → ℕ
line_over at line [] = line
line_over at line (first ∷ rest) = if nat_lt MAX_CODE (at + size_of first.made) then line else line_over (at + size_of first.made) (line + 1) rest

-- the instructions of all lines
unfoldable pub all_instructions : List Line → Result (List (Option Instr)) Refusal
all_instructions all = if nat_lt MAX_CODE (word_count all)
    then Err (record { fault = TooLong; line = line_over 0 1 all }) else all_placed (label_place all) 0 1 all

-- the instructions of a text, or its first fault
unfoldable pub assembled : List ℕ → Result (List (Option Instr)) Refusal
assembled text = do
  all ← all_drafted [] (lines text)
  all_instructions all

-- ---- what a draft knows of its lines

abbrev pub Fitting : Option Made → Type 0
Fitting None = Unit {0}
Fitting (Some made) = MadeFits made

abbrev pub AllFit : List Line → Type 0
AllFit [] = Unit {0}
AllFit (line ∷ rest) = Fitting line.made × AllFit rest

-- ---- words

-- the fields of the word that decide nothing are zero
abbrev pub IsPlain : ℕ → Type 0
IsPlain word = IfSome (meaning word) (HasPlainFence word)

abbrev pub AllPlain : List ℕ → Type 0
AllPlain [] = Unit {0}
AllPlain (word ∷ rest) = IsPlain word × AllPlain rest
