-- A picture of a run as a value, and its text. A line has texts, which are marks at their cells, and
-- strokes; cells count from 0.
use Rattle.std.specs.Prelude.{ℕ, zero, suc, ◌+◌, ◌-◌, ◌==◌, ◌≤◌, ◌&&◌, nat_lt, nat_le, if◌then◌else◌}
use Rattle.std.specs.Prelude.{Bool, List, [], ◌∷◌, ◌++◌, length, map, Option, None, unwrap_or}
use Rattle.std.specs.List.{slice_get, flat_map, count_by, list_any}
use Rattle.chart.specs.declared.pictures.Sign.{Sign}
use Rattle.chart.specs.declared.pictures.Sign.TheVariants.{Flat, Double, Reads, Down, Bend, Lands, From, Reader, To, Joins, Cut, Open}
use Rattle.chart.specs.declared.pictures.Stroke.{Stroke}
use Rattle.chart.specs.declared.pictures.Weight.{Weight}

pub record MarkOf : Type 0 where
  pub at : ℕ
  pub weight : Weight
  pub text : List ℕ

pub record LineOf : Type 0 where
  pub marks : List MarkOf
  pub strokes : List Stroke

-- the lines above the picture, the heads of its columns, its lines, those below it, and how many cells
-- a line has
pub record PictureOf : Type 0 where
  pub head : List (List ℕ)
  pub heads : LineOf
  pub body : List LineOf
  pub foot : List (List ℕ)
  pub width : ℕ

-- ---- what stands in a cell

abbrev pub sign_byte : Sign → ℕ
sign_byte Flat = 45
sign_byte Double = 61
sign_byte Reads = 45
sign_byte Down = 124
sign_byte Bend = 46
sign_byte Lands = 39
sign_byte From = 60
sign_byte Reader = 60
sign_byte To = 62
sign_byte Joins = 111
sign_byte Cut = 126
sign_byte Open = 118

abbrev pub strikes : Stroke → ℕ → Bool
strikes s cell = nat_le s.at cell && nat_lt (cell - s.at) s.count

-- the last stroke of a cell is the one that is seen there
abbrev pub struck : (cell found : ℕ) → List Stroke → ℕ
struck cell found [] = found
struck cell found (s ∷ ss) = struck cell (if strikes s cell then sign_byte s.sign else found) ss

-- the mark's byte in a cell, if it has one there
abbrev pub byte_of_mark : MarkOf → ℕ → Option ℕ
byte_of_mark m cell = if nat_lt cell m.at then None else slice_get m.text (cell - m.at)

abbrev pub mark_byte : (cell found : ℕ) → List MarkOf → ℕ
mark_byte cell found [] = found
mark_byte cell found (m ∷ ms) = mark_byte cell (unwrap_or (byte_of_mark m cell) found) ms

-- each byte outside of 32 to 126 is shown as `?`
abbrev pub shown_byte : ℕ → ℕ
shown_byte byte = if nat_lt 31 byte && nat_lt byte 127 then byte else 63

-- what a line shows in a cell: a text, else a stroke, else a blank
abbrev pub line_cell : LineOf → ℕ → ℕ
line_cell line cell = shown_byte (mark_byte cell (struck cell 32 line.strokes) line.marks)

-- ---- the text

-- the end of what isn't blank in the line's first n cells
abbrev pub text_end : LineOf → ℕ → ℕ
text_end line zero = 0
text_end line (suc n) = if line_cell line n == 32 then text_end line n else suc n

-- the first n cells
abbrev pub first_cells : LineOf → ℕ → List ℕ
first_cells line zero = []
first_cells line (suc n) = first_cells line n ++ line_cell line n ∷ []

-- a line, without the blanks at its end
abbrev pub line_text : ℕ → LineOf → List ℕ
line_text width line = first_cells line (text_end line width) ++ 10 ∷ []

abbrev pub plain_line : List ℕ → List ℕ
plain_line text = map shown_byte text ++ 10 ∷ []

abbrev pub picture_text : PictureOf → List ℕ
picture_text p =
    flat_map plain_line p.head ++ 10 ∷ [] ++ line_text p.width p.heads ++ flat_map (line_text p.width) p.body ++ 10 ∷ [] ++ flat_map plain_line p.foot

-- ---- the law

abbrev pub stands_in : (cell : ℕ) → MarkOf → Bool
stands_in cell m = nat_le m.at cell && nat_lt (cell - m.at) (length m.text)

-- how many texts stand in a cell, and one more where a stroke does
abbrev pub taken_by : (cell : ℕ) → LineOf → ℕ
taken_by cell line = count_by (stands_in cell) line.marks + (if list_any (λ s. strikes s cell) line.strokes then 1 else 0)

-- no text stands on another text or on a stroke
abbrev pub IsClear : LineOf → Type 0
IsClear line = (cell : ℕ) → taken_by cell line ≤ 1
