-- Which text is which statement, and which line, by two tables: the mnemonics (`Mnemonics`), and the
-- operands that each takes (`Statements`).
use Rattle.std.specs.Prelude.{◌≡◌, ◌≢◌, ℕ, true, List, [], ◌∷◌, ◌++◌, length, Option, Some, None}
use Rattle.std.specs.List.{Contains}
use Rattle.texts.specs.Pieces.{is_blank}
use Rattle.assembler.specs.declared.form.Form.{Form}
use Rattle.assembler.specs.Mnemonics.{mnemonics}
use Rattle.assembler.specs.Operands.{is_label_name, OperandKind, OperandValue}
use Rattle.assembler.specs.Statements.{Made, Maker, operand_row}
use Rattle.assembler.specs.Drafts.{Line}
use Rattle.texts.specs.Cutting.{AreBlanks, IsPadded, NonePass, is_byte}
use Rattle.assembler.specs.Spelled.{operands_in, an_operand}

-- ---- operands, each spelled as its place asks, and what is made of them

abbrev pub AreSpelled : (kinds : List OperandKind) → Maker kinds → List (List ℕ) → Made → Type 0
AreSpelled [] result operands made = (operands ≡ []) × (made ≡ result)
AreSpelled (kind ∷ kinds) make operands made = (operand : List ℕ) × (others : List (List ℕ)) × (x : OperandValue kind)
    × (operands ≡ operand ∷ others) × (an_operand kind).Says operand x × AreSpelled kinds (make x) others made

-- what each mnemonic makes of its operands
abbrev pub Makes : Form → List (List ℕ) → Made → Type 0
Makes form operands made = AreSpelled (operand_row form (length operands)).kinds (operand_row form (length operands)).make operands made

-- A statement: a mnemonic alone, or one with a blank and its operands.
pub data IsStatement : List ℕ → Made → Type 0 where
  alone : (name : List ℕ) (form : Form) (made : Made) → Contains mnemonics (name, form) → Makes form [] made → IsStatement name made
  applied : (name : List ℕ) (blank : ℕ) (text : List ℕ) (form : Form) (made : Made) → Contains mnemonics (name, form)
      → is_blank blank ≡ true → Makes form (operands_in text) made
      → IsStatement (name ++ blank ∷ text) made

-- ---- lines

-- blanks alone, or a statement with blanks round it
pub data IsBody : List ℕ → Option Made → Type 0 where
  nothing : (text : List ℕ) → AreBlanks text → IsBody text None
  statement : (text core : List ℕ) (made : Made) → IsPadded core text → IsStatement core made → IsBody text (Some made)

-- no label and its colon (58) stand in front
abbrev pub HasNoLabel : List ℕ → Type 0
HasNoLabel text = (blanks name rest : List ℕ) → AreBlanks blanks → is_label_name name ≡ true → text ≢ blanks ++ (name ++ 58 ∷ rest)

-- a body, or a label with its colon and then a body
pub data IsUncommented : List ℕ → Line → Type 0 where
  bare : (text : List ℕ) (made : Option Made) → HasNoLabel text → IsBody text made → IsUncommented text (record { label = None; made = made })
  labelled : (blanks name text : List ℕ) (made : Option Made) → AreBlanks blanks → is_label_name name ≡ true
      → IsBody text made → IsUncommented (blanks ++ (name ++ 58 ∷ text)) (record { label = Some name; made = made })

-- code, and no comment or one from the first `#` (35) to the line's end
pub data IsLine : List ℕ → Line → Type 0 where
  code : (text : List ℕ) (line : Line) → NonePass (is_byte 35) text → IsUncommented text line → IsLine text line
  commented : (text comment : List ℕ) (line : Line) → NonePass (is_byte 35) text → IsUncommented text line → IsLine (text ++ 35 ∷ comment) line
