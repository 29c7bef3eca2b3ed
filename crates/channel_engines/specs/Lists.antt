-- Lists of words, a line each: the input of `channel`.
use Rattle.std.specs.Prelude.{ℕ, nat_lt, List, length, Result}
use Rattle.std.specs.List.{AllZip, filter}
use Rattle.std.specs.Str.Lines.{lines}
use Rattle.texts.specs.Numbers.{word_of}
use Rattle.texts.specs.Pieces.{pieces}
use Rattle.texts.specs.declared.pieces.Separators.TheVariants.{Spaces}
use Rattle.texts.specs.Formats.{each, each_at}
use Rattle.engine_support.specs.declared.fault.Refusal.{Refusal}
use Rattle.engine_support.specs.Inputs.{Format, format}
use Rattle.engine_support.specs.Faults.{or_bad, at_line}
use Rattle.texts.specs.Numbers.{SaysWord}

-- the pieces that have a byte
abbrev pub with_bytes : List (List ℕ) → List (List ℕ)
with_bytes parts = filter (λ piece. nat_lt 0 (length piece)) parts

-- The line says this list: what stands between its spaces, in decimal digits.
abbrev pub SaysList : List ℕ → List ℕ → Type 0
SaysList line list = AllZip SaysWord (with_bytes (pieces Spaces line)) list

-- The text says these lists, a line each.
abbrev pub SaysLists : List ℕ → List (List ℕ) → Type 0
SaysLists text lists = AllZip SaysList (lines text) lists

-- the words that all of these say
unfoldable pub list_at : List (List ℕ) → Result (List ℕ) ℕ
list_at words = each (λ digits. or_bad (word_of digits)) words

abbrev pub list_of : List ℕ → Result (List ℕ) ℕ
list_of line = list_at (with_bytes (pieces Spaces line))

-- the lists that these lines say, the first of which has this number; a line that holds anything else is
-- refused
unfoldable pub lists_of_lines : (number : ℕ) → List (List ℕ) → Result (List (List ℕ)) Refusal
lists_of_lines number lines = each_at (λ place line. at_line place (list_of line)) number lines

-- the lists that a text says, or its first fault
unfoldable pub lists_at : List ℕ → Result (List (List ℕ)) Refusal
lists_at text = lists_of_lines 1 (lines text)

-- inputs that are lists
abbrev pub list_texts : Format (List (List ℕ))
list_texts = format SaysLists lists_at
