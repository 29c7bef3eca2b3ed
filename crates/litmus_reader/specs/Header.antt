-- The header line, and where the init part begins.
use Rattle.std.specs.Prelude.{ℕ, ◌==◌, Bool, false, not, ◌&&◌, List, [], ◌∷◌, length, drop, Option, None, Some, Result}
use Rattle.std.specs.Prelude.{Ok, Err, if◌then◌else◌, codes, unwrap_or}
use Rattle.texts.specs.Pieces.{is_blank}
use Rattle.texts.specs.Cutting.{before, after, is_byte, without_front}
use Rattle.litmus_reader.specs.declared.faults.LitmusFault.{LitmusFault}
use Rattle.litmus_reader.specs.declared.faults.LitmusFault.TheVariants.{NoHeader, BadInit}
use Rattle.litmus_reader.specs.declared.marks.Mark.TheVariants.{Visible, Brace}
use Rattle.litmus_reader.specs.Marks.{from_line, has_token}

-- blanks, and then a byte that isn't blank
abbrev pub has_name : List ℕ → Bool
has_name [] = false
has_name (c ∷ rest) = is_blank c && not (length (without_front rest) == 0)

-- `RISCV`, blanks and a name of one or more bytes that aren't blank; whatever follows isn't read
unfoldable pub is_header : List ℕ → Bool
is_header line = has_token (codes "RISCV") (without_front line) && has_name (drop 5 (without_front line))

abbrev pub after_line : Option (List ℕ) → Result (List ℕ) LitmusFault
after_line None = Err NoHeader
after_line (Some text) = if is_header (before (is_byte 10) text) then Ok (unwrap_or (after (is_byte 10) text) []) else Err NoHeader

-- what follows the header, which is the first line that isn't blank
unfoldable pub after_header : List ℕ → Result (List ℕ) LitmusFault
after_header text = after_line (from_line Visible text)

abbrev pub after_front : Option (List ℕ) → Result (List ℕ) LitmusFault
after_front None = Err BadInit
after_front (Some text) = Ok (drop 1 (without_front text))

-- what follows the `{` with which a line begins
unfoldable pub after_brace : List ℕ → Result (List ℕ) LitmusFault
after_brace text = after_front (from_line Brace text)
