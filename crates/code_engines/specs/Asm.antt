-- The command `asm`: the words of an assembly text, a line each.
use Rattle.std.specs.Prelude.{ℕ, ◌≡◌, List, ◌∷◌, [], ◌++◌, IsOkAnd, Option, Result}
use Rattle.std.specs.List.{flat_map}
use Rattle.texts.specs.Numbers.{hex_word, hex_word_of}
use Rattle.texts.specs.Results.{map_err}
use Rattle.rv_decode.specs.declared.instruction.Instr.{Instr}
use Rattle.assembler.specs.Drafts.{assembled, asm_number, Refusal as AsmRefusal}
use Rattle.assembler.specs.Program.{IsCode}
use Rattle.engine_support.specs.declared.fault.Refusal.{Refusal}
use Rattle.engine_support.specs.Faults.{refused_at, or_bad}
use Rattle.engine_support.specs.Engines.{Output}
use Rattle.engine_support.specs.Inputs.{After, Format, format}
use Rattle.texts.specs.Formats.{each}

-- a fault of an assembly text, refused by its number at its line
abbrev pub refused_program : {V : Type 0} → Result V AsmRefusal → Result V Refusal
refused_program result = map_err (refused_at asm_number) result

-- the instructions of an assembly text, or its refusal
unfoldable pub asm_at : List ℕ → Result (List (Option Instr)) Refusal
asm_at text = refused_program (assembled text)

-- a word as 8 hex digits on a line of its own
abbrev pub hex_line : ℕ → List ℕ
hex_line word = hex_word word ++ 10 ∷ []

-- inputs that are assembly texts, with the words of their code
abbrev pub assembly_texts : Format (List ℕ)
assembly_texts = format IsCode asm_at

-- What answers an input: the lines of the words that it is assembled to.
abbrev pub IsAsmAnswer : (input : Option (List ℕ)) → Result Output Refusal → Type 0
IsAsmAnswer input = After assembly_texts input (λ words given. IsOkAnd given (λ answer. answer.0 ≡ flat_map hex_line words))

-- ---- instruction words in hex

-- the instruction words that all of the words say
unfoldable pub code_at : List (List ℕ) → Result (List ℕ) ℕ
code_at words = each (λ digits. or_bad (hex_word_of digits)) words
