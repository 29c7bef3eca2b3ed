-- The pieces of a text: what stands between the bytes that part it.
use Rattle.std.specs.Prelude.{ℕ, ◌+◌, ◌==◌, Bool, ◌||◌, List, [], ◌∷◌, length, Option, None, Some}
use Rattle.std.specs.List.{slice_split}
use Rattle.texts.specs.declared.pieces.Separators.{Separators}
use Rattle.texts.specs.declared.pieces.Separators.TheVariants.{Byte, Spaces, Blanks, Gaps, BlanksAndLineEnds}

-- a space or a tab
abbrev pub is_blank : ℕ → Bool
is_blank byte = (byte == 32) || (byte == 9)

-- a blank or LF
abbrev pub is_gap : ℕ → Bool
is_gap byte = is_blank byte || (byte == 10)

-- a blank, CR or LF
abbrev pub is_blank_or_line_end : ℕ → Bool
is_blank_or_line_end byte = (byte == 32) || (byte == 9) || (byte == 13) || (byte == 10)

abbrev pub separates : Separators → ℕ → Bool
separates (Byte one) byte = byte == one
separates Spaces byte = byte == 32
separates Blanks byte = is_blank byte
separates Gaps byte = is_gap byte
separates BlanksAndLineEnds byte = is_blank_or_line_end byte

-- What stands between the separators, before the first and after the last; a piece may be empty.
abbrev pub pieces : Separators → List ℕ → List (List ℕ)
pieces separators text = slice_split (separates separators) text

-- the pieces of what is left of a text, which is nothing after the last piece
abbrev pub pieces_after : Separators → Option (List ℕ) → List (List ℕ)
pieces_after separators None = []
pieces_after separators (Some text) = pieces separators text

-- how many bytes are left of a text, with the separator before them
abbrev pub bytes_left : Option (List ℕ) → ℕ
bytes_left None = 0
bytes_left (Some text) = length text + 1

-- how many bytes the pieces take, each with one separator
abbrev pub span : List (List ℕ) → ℕ
span [] = 0
span (piece ∷ others) = length piece + 1 + span others
