-- The command `dis`: the instructions of words in hex, a line each.
use Rattle.std.specs.Prelude.{ℕ, ◌≡◌, ◌+◌, List, [], ◌∷◌, ◌++◌, IsOkAnd, Option, Some, None, Result, Ok, codes}
use Rattle.std.specs.List.{AllZip, flat_map}
use Rattle.std.specs.Str.Lines.{lines}
use Rattle.texts.specs.Numbers.{IsHexWord}
use Rattle.texts.specs.Results.{◌>>=◌}
use Rattle.rv_decode.specs.Meaning.{meaning}
use Rattle.rv_decode.specs.declared.instruction.Instr.{Instr}
use Rattle.assembler.specs.Drafts.{onto}
use Rattle.assembler.specs.Writing.{text_of}
use Rattle.engine_support.specs.declared.fault.Refusal.{Refusal}
use Rattle.texts.specs.Cutting.{tokens}
use Rattle.engine_support.specs.Faults.{at_line}
use Rattle.code_engines.specs.Asm.{code_at}
use Rattle.engine_support.specs.Engines.{Output}
use Rattle.engine_support.specs.Inputs.{After, Format, format}

-- The text says these instruction words: each word of its lines is 8 hex digits that say the next one.
abbrev pub SaysCode : List ℕ → List ℕ → Type 0
SaysCode text code = AllZip IsHexWord (flat_map tokens (lines text)) code

-- the instruction words that the words of these lines say, the first of which has this number; a word
-- that isn't 8 hex digits is refused at its line
unfoldable pub code_of_lines : (number : ℕ) → List (List ℕ) → Result (List ℕ) Refusal
code_of_lines number [] = Ok []
code_of_lines number (line ∷ others) = do
  code ← at_line number (code_at (tokens line))
  onto code (code_of_lines (number + 1) others)

-- the instruction words that a text says, or its first fault
unfoldable pub dis_at : List ℕ → Result (List ℕ) Refusal
dis_at text = code_of_lines 1 (lines text)

-- the text of what a word means
abbrev pub meant_text : Option Instr → List ℕ
meant_text None = codes "illegal"
meant_text (Some instr) = text_of instr

abbrev pub instr_line : ℕ → List ℕ
instr_line word = meant_text (meaning word) ++ 10 ∷ []

-- inputs that are instruction words
abbrev pub code_texts : Format (List ℕ)
code_texts = format SaysCode dis_at

-- What answers an input: the lines of what its words mean.
abbrev pub IsDisAnswer : (input : Option (List ℕ)) → Result Output Refusal → Type 0
IsDisAnswer input = After code_texts input (λ code given. IsOkAnd given (λ answer. answer.0 ≡ flat_map instr_line code))
