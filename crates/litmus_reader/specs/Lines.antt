-- At which line a fault is reported: it is met where this number of bytes of the text is left, and none are left
-- where a part is missing.
use Rattle.std.specs.Prelude.{ℕ, zero, suc, ◌+◌, ◌-◌, ◌==◌, Bool, not, List, [], ◌∷◌, length, take, min, position, Option, Some, None, if◌then◌else◌}
use Rattle.std.specs.List.{count_by}
use Rattle.std.specs.Str.Lines.{lines}
use Rattle.texts.specs.Pieces.{span, is_gap, pieces}
use Rattle.texts.specs.Cutting.{is_byte}
use Rattle.texts.specs.declared.errors.AtLine.{AtLine}
use Rattle.texts.specs.declared.errors.TextError.{TextError}
use Rattle.texts.specs.declared.errors.TextError.TheVariants.{NoMemory, Refused}
use Rattle.litmus_reader.specs.declared.faults.LitmusFault.{LitmusFault}
use Rattle.litmus_reader.specs.declared.refusals.AtLeft.{AtLeft}
use Rattle.litmus_reader.specs.Rows.{indent, is_blank_line}
use Rattle.texts.specs.declared.pieces.Separators.TheVariants.{Byte}

abbrev pub with_line : List ℕ → ℕ → ℕ
with_line [] zero = 0
with_line (c ∷ line) zero = 1
with_line line (suc below) = suc (suc below)

-- the last line that isn't empty, counted from 1; 0 where all are
abbrev pub last_filled : List (List ℕ) → ℕ
last_filled [] = 0
last_filled (line ∷ below) = with_line line (last_filled below)

abbrev pub or_first : ℕ → ℕ
or_first zero = 1
or_first (suc line) = suc line

abbrev pub last_line : List ℕ → ℕ
last_line text = or_first (last_filled (lines text))

-- one more than the LFs above, or the text's last line that isn't empty
unfoldable pub line_at : List ℕ → (left : ℕ) → ℕ
line_at text left = if left == 0 then last_line text else count_by (is_byte 10) (take (length text - left) text) + 1

abbrev pub error_at : List ℕ → TextError AtLeft → TextError (AtLine LitmusFault)
error_at text NoMemory = NoMemory
error_at text (Refused refusal) = Refused (record { fault = refusal.fault; line = line_at text refusal.left })

-- ---- where faults are met

abbrev pub is_visible : ℕ → Bool
is_visible byte = not (is_gap byte)

abbrev pub left_after_it : List ℕ → Option ℕ → ℕ
left_after_it text None = length text
left_after_it text (Some at) = length text - at

-- how many bytes are left from the first one on that is no blank and no line end, if there is one
abbrev pub left_of : List ℕ → ℕ
left_of text = left_after_it text (position is_visible text)

-- How many bytes these lines have, from the first byte on that is no blank of the row that has `row` others above; blank
-- lines are none.
abbrev pub left_from : (row : ℕ) → List (List ℕ) → ℕ
left_from row [] = 0
left_from row (line ∷ below) =
    if is_blank_line line then left_from row below
    else (if row == 0 then span (line ∷ below) - 1 - indent line else left_from (row - 1) below)

unfoldable pub left_at_row : List ℕ → (row : ℕ) → ℕ
left_at_row text row = left_from row (pieces (Byte 10) text)

-- the first row of those so far and this one
abbrev pub earlier : Option ℕ → ℕ → ℕ
earlier None other = other
earlier (Some row) other = min row other
