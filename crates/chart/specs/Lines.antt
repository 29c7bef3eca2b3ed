-- The lines of a picture: what stands in a row, and which strokes. A pending store's line goes from its
-- row to a lane, down in it, and from there to memory in the row of its landing. Lines downwards are
-- written over lines across, so that each can be followed.
use Rattle.std.specs.Prelude.{ℕ, zero, suc, ◌+◌, ◌-◌, ◌==◌, if◌then◌else◌, Bool, false}
use Rattle.std.specs.Prelude.{List, [], ◌∷◌, ◌++◌, length, map, codes, Option, None, Some, option_map}
use Rattle.std.specs.List.{slice_get, flat_map, list_any}
use Rattle.std.specs.Fmt.{decimal}
use Rattle.step_machine.specs.declared.events.Entry.{Entry}
use Rattle.step_machine.specs.declared.events.Entry.TheVariants as entry
use Rattle.step_machine.specs.Entries.{hart_of}
use Rattle.chart.specs.declared.lanes.Held.{Held}
use Rattle.chart.specs.declared.places.Places.{Places}
use Rattle.chart.specs.declared.sources.Source.{Source}
use Rattle.chart.specs.declared.sources.Source.TheVariants.{Own, Memory, Opening}
use Rattle.chart.specs.declared.pictures.Sign.{Sign}
use Rattle.chart.specs.declared.pictures.Sign.TheVariants.{Flat, Double, Reads, Down, Bend, Lands, From, Reader, To, Joins, Cut, Open}
use Rattle.chart.specs.declared.pictures.Stroke.{Stroke}
use Rattle.chart.specs.declared.pictures.Weight.{Weight}
use Rattle.chart.specs.declared.pictures.Weight.TheVariants.{Quiet, Loud, Bold}
use Rattle.chart.specs.declared.scenes.Form.{Form}
use Rattle.chart.specs.Rows.{RowOf}
use Rattle.chart.specs.Lanes.{LanedOf, hart_column}
use Rattle.chart.specs.Pictures.{MarkOf, LineOf}
use Rattle.chart.specs.Places.{first_cell, lane_cell, memory_cell}
use Rattle.chart.specs.Scenes.{SceneOf, has_no_row, row_label, kept_at, hart_name, shape_of}

-- ---- strokes

-- one cell, and the cells from one on and before another
abbrev pub sign_at : Sign → (cell column : ℕ) → Stroke
sign_at sign cell column = record { sign = sign; at = cell; count = 1; hart = column }

abbrev pub across : Sign → (from to column : ℕ) → Stroke
across sign from to column = record { sign = sign; at = from; count = to - from; hart = column }

-- a store's line, from the end of its text to its lane; without a lane it is cut
abbrev pub store_strokes : (column following : ℕ) → (lane : Option ℕ) → List Stroke
store_strokes column following None = sign_at Cut (following + 1) column ∷ []
store_strokes column following (Some lane) = across Flat (following + 1) lane column ∷ sign_at Bend lane column ∷ []

-- a landing's line, from its lane to memory
abbrev pub land_strokes : (column memory : ℕ) → (lane : Option ℕ) → List Stroke
land_strokes column memory None = sign_at Cut (memory - 3) column ∷ sign_at To (memory - 2) column ∷ []
land_strokes column memory (Some lane) = across Flat (lane + 1) (memory - 2) column ∷ sign_at Lands lane column ∷ sign_at To (memory - 2) column ∷ []

-- an AMO's, between its text and memory
abbrev pub amo_strokes : (column following memory : ℕ) → List Stroke
amo_strokes column following memory = sign_at From (following + 1) column
    ∷ across Double (following + 2) (memory - 2) column ∷ sign_at To (memory - 2) column ∷ []

abbrev pub own_strokes : (column following memory : ℕ) → (lane : Option ℕ) → Entry → List Stroke
own_strokes column following memory lane (entry.Store h a width v) = store_strokes column following lane
own_strokes column following memory lane (entry.Land h) = land_strokes column memory lane
own_strokes column following memory lane (entry.Amo h a old new) = amo_strokes column following memory
own_strokes column following memory lane other = []

-- whether a source is the pending store of this row
abbrev pub is_store_of_row : ℕ → Source → Bool
is_store_of_row row (Own other) = other == row
is_store_of_row row (Memory other) = false
is_store_of_row row Opening = false

abbrev pub is_read : List Source → Held → Bool
is_read sources h = list_any (is_store_of_row h.row) sources

-- the line of what a row reads from a pending store
abbrev pub read_strokes : Places → List Source → (column following : ℕ) → Held → List Stroke
read_strokes p sources column following h =
    if is_read sources h then sign_at Reader (following + 1) column ∷ across Reads (following + 2) (lane_cell p h) column ∷ [] else []

-- a pending store's line in a row that it passes, with an `o` where the row reads it
abbrev pub passing_stroke : Places → List Source → Held → Stroke
passing_stroke p sources h = sign_at (if is_read sources h then Joins else Down) (lane_cell p h) h.column

abbrev pub row_strokes : Places → (column following : ℕ) → RowOf → LanedOf → List Stroke
row_strokes p column following r l =
    own_strokes column following (memory_cell p) (option_map (lane_cell p) l.own) r.entry
    ++ flat_map (read_strokes p r.sources column following) l.passing
    ++ map (passing_stroke p r.sources) l.passing

-- ---- lines

abbrev pub text_at : (cell : ℕ) → Weight → List ℕ → MarkOf
text_at cell weight text = record { at = cell; weight = weight; text = text }

-- rows count from 1, and their numbers end before cell 5
abbrev pub number_mark : ℕ → MarkOf
number_mark i = text_at (5 - length (decimal (i + 1))) Quiet (decimal (i + 1))

-- the line of row i, in this column, with what it says there and in memory
abbrev pub row_line : Places → (i column : ℕ) → (label kept : List ℕ) → RowOf → LanedOf → LineOf
row_line p i column label kept r l = record {
  marks = number_mark i ∷ text_at (first_cell p column) Loud label ∷ text_at (memory_cell p) Loud kept ∷ [];
  strokes = row_strokes p column (first_cell p column + length label) r l;
}

abbrev pub empty_line : LineOf
empty_line = record { marks = []; strokes = [] }

abbrev pub scene_line : Form → SceneOf → Places → ℕ → RowOf → LanedOf → LineOf
scene_line form scene p i r l = row_line p i (hart_column (shape_of form) (hart_of r.entry)) (row_label form scene i) (kept_at form scene i) r l

abbrev pub laned_line : Form → SceneOf → Places → ℕ → RowOf → Option LanedOf → LineOf
laned_line form scene p i r None = empty_line
laned_line form scene p i r (Some l) = scene_line form scene p i r l

abbrev pub line_in : Form → SceneOf → Places → List LanedOf → ℕ → Option RowOf → LineOf
line_in form scene p lanes i None = empty_line
line_in form scene p lanes i (Some r) = laned_line form scene p i r (slice_get lanes i)

abbrev pub picture_line : Form → SceneOf → Places → List LanedOf → ℕ → LineOf
picture_line form scene p lanes i = line_in form scene p lanes i (slice_get scene.rows i)

abbrev pub is_without_line : SceneOf → Option RowOf → Bool
is_without_line scene None = false
is_without_line scene (Some r) = has_no_row scene.selection r.entry

-- the line of row i, if it is drawn
abbrev pub drawn_at : Form → SceneOf → Places → List LanedOf → ℕ → List LineOf
drawn_at form scene p lanes i = if is_without_line scene (slice_get scene.rows i) then [] else picture_line form scene p lanes i ∷ []

-- the lines of the first n rows
abbrev pub first_row_lines : Form → SceneOf → Places → List LanedOf → ℕ → List LineOf
first_row_lines form scene p lanes zero = []
first_row_lines form scene p lanes (suc n) = first_row_lines form scene p lanes n ++ drawn_at form scene p lanes n

abbrev pub row_lines : Form → SceneOf → Places → List LanedOf → List LineOf
row_lines form scene p lanes = first_row_lines form scene p lanes (length scene.rows)

abbrev pub open_stroke : Places → Held → Stroke
open_stroke p h = sign_at Open (lane_cell p h) h.column

abbrev pub open_lines : Places → List Held → List LineOf
open_lines p [] = []
open_lines p (h ∷ hs) = record { marks = []; strokes = map (open_stroke p) (h ∷ hs) } ∷ []

abbrev pub head_mark : Places → ℕ → MarkOf
head_mark p h = text_at (first_cell p h) Bold (hart_name h)

-- the heads of the first n harts
abbrev pub head_marks : Places → ℕ → List MarkOf
head_marks p zero = []
head_marks p (suc n) = head_marks p n ++ head_mark p n ∷ []

abbrev pub hart_marks : Places → List MarkOf
hart_marks p = if p.listed then text_at 7 Bold (codes "harts") ∷ [] else head_marks p p.harts

abbrev pub heads_line : Places → LineOf
heads_line p = record { marks = hart_marks p ++ text_at (memory_cell p) Bold (codes "memory") ∷ []; strokes = [] }
