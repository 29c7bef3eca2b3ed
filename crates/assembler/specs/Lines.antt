-- A line's parts: what stands before a comment is a label, or none, and a statement, or none.
use Rattle.std.specs.Prelude.{ℕ, ◌==◌, Bool, true, false, List, [], ◌∷◌, length, Option, Some, None, Result, Ok, Err, if◌then◌else◌}
use Rattle.std.specs.Option.{option_copied}
use Rattle.texts.specs.Pieces.{is_blank}
use Rattle.texts.specs.Results.{◌>>=◌}
use Rattle.assembler.specs.declared.faults.AsmFault.{AsmFault}
use Rattle.assembler.specs.declared.faults.AsmFault.TheVariants.{UnknownName}
use Rattle.assembler.specs.declared.form.Form.{Form}
use Rattle.assembler.specs.declared.statement.Operands.{Operands}
use Rattle.assembler.specs.declared.statement.Statement.{Statement}
use Rattle.texts.specs.Cutting.{before, after, is_byte, without_front, trimmed}
use Rattle.assembler.specs.Operands.{is_label_name}
use Rattle.assembler.specs.Spelled.{operands_in}
use Rattle.assembler.specs.Mnemonics.{form_named}
use Rattle.assembler.specs.Statements.{Made, statement_of, made_of}

-- what stands before the first `#`
abbrev pub code_of : List ℕ → List ℕ
code_of line = before (is_byte 35) line

abbrev pub label_and_rest : (code front : List ℕ) → Option (List ℕ) → Option (List ℕ) × List ℕ
label_and_rest code front None = (None, code)
label_and_rest code front (Some rest) = if is_label_name front then (Some front, rest) else (None, code)

-- A label and what is left, where a name stands before the first `:` with no more than blanks in front.
-- Where none does, all is left.
abbrev pub parts_of : List ℕ → Option (List ℕ) × List ℕ
parts_of code = label_and_rest code (without_front (before (is_byte 58) code)) (after (is_byte 58) code)

unfoldable pub label_of : List ℕ → Option (List ℕ)
label_of line = (parts_of (code_of line)).0

unfoldable pub statement_text : List ℕ → List ℕ
statement_text line = trimmed (parts_of (code_of line)).1

-- the texts between commas, without the blanks round them
abbrev pub between_commas : Option (List ℕ) → List (List ℕ)
between_commas None = []
between_commas (Some text) = operands_in text

abbrev pub some_text : List ℕ → Option (List ℕ)
some_text text = if length text == 0 then None else Some text

abbrev pub trimmed_text : Option (List ℕ) → Option (List ℕ)
trimmed_text None = None
trimmed_text (Some text) = some_text (trimmed text)

-- the operands in what follows a mnemonic, which are none where it is blank
abbrev pub operands_of : Option (List ℕ) → List (List ℕ)
operands_of rest = between_commas (trimmed_text rest)

abbrev pub made_for : Option Form → List (List ℕ) → Result (Option Made) AsmFault
made_for None list = Err UnknownName
made_for (Some form) list = do
  made ← statement_of form list
  Ok (Some made)

-- what a statement makes, which is nothing where there is none
unfoldable pub made_in : List ℕ → Result (Option Made) AsmFault
made_in text = if length text == 0 then Ok None else made_for (form_named (before is_blank text)) (operands_of (after is_blank text))

abbrev pub made_by : Option Statement → Option Made
made_by None = None
made_by (Some statement) = Some (made_of statement)

-- the operands that the code has not yet read
abbrev pub left : Operands → List (List ℕ)
left operands = between_commas (option_copied operands.rest)

abbrev pub is_pair : List (List ℕ) → Bool
is_pair (first ∷ second ∷ []) = true
is_pair operands = false
