-- Where the columns, lanes and texts of a picture stand. Cells count from 0, and no text takes more than
-- 255. Each hart has a column, which is as wide as every other one's, and memory stands to the right of them.
use Rattle.std.specs.Prelude.{ℕ, ◌+◌, ◌-◌, ◌*◌, min, if◌then◌else◌}
use Rattle.chart.specs.declared.lanes.Held.{Held}
use Rattle.chart.specs.declared.places.Places.{Places}

-- how many columns stand to the left of this one
abbrev pub rank : Places → ℕ → ℕ
rank p column = if p.listed then 0 else min column 255

abbrev pub columns : Places → ℕ
columns p = if p.listed then 1 else min p.harts 255

-- from one column's first cell to the next one's
abbrev pub pitch : Places → ℕ
pitch p = p.text + 2 * p.lanes + 4

-- a column's first cell
abbrev pub first_cell : Places → ℕ → ℕ
first_cell p column = 7 + rank p column * pitch p

-- the cell of a lane, of which the rightmost one has number 0
abbrev pub lane_cell : Places → Held → ℕ
lane_cell p h = first_cell p h.column + p.text + 2 * (p.lanes - h.lane)

-- memory's first cell, two to the right of where a further column would begin
abbrev pub memory_cell : Places → ℕ
memory_cell p = 9 + columns p * pitch p
