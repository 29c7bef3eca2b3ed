-- Lanes: the vertical line in which a pending store stands, from the row that made it to the row in which
-- it landed. A store takes the lowest lane of its column that no pending store holds, and gives it back
-- in the row of its landing; where all lanes are held it has none.
use Rattle.std.specs.Prelude.{ℕ, zero, suc, ◌≡◌, ◌+◌, ◌==◌, if◌then◌else◌, Bool, false, not}
use Rattle.std.specs.Prelude.{◌&&◌, List, [], ◌∷◌, ◌++◌, filter, Option, Some, None, option_to_list}
use Rattle.std.specs.List.{list_any}
use Rattle.step_machine.specs.declared.events.Entry.{Entry}
use Rattle.step_machine.specs.declared.events.Entry.TheVariants as entry
use Rattle.chart.specs.declared.lanes.Held.{Held}
use Rattle.chart.specs.declared.lanes.Shape.{Shape}
use Rattle.chart.specs.Rows.{RowOf}

-- which column a hart has: one for all harts has number 0
abbrev pub hart_column : Shape → ℕ → ℕ
hart_column shape h = if shape.listed then 0 else h

abbrev pub holds : (column lane : ℕ) → Held → Bool
holds column lane h = (h.column == column) && (h.lane == lane)

abbrev pub is_held : List Held → (column lane : ℕ) → Bool
is_held held column lane = list_any (holds column lane) held

-- the first of n lanes from k on that nobody holds
abbrev pub first_free : List Held → (column k n : ℕ) → Option ℕ
first_free held column k zero = None
first_free held column k (suc n) = if is_held held column k then first_free held column (k + 1) n else Some k

-- the store of this row, with this lane
abbrev pub in_lane : (row column : ℕ) → Option ℕ → Option Held
in_lane row column None = None
in_lane row column (Some lane) = Some (record { row = row; column = column; lane = lane })

-- what a hart's store of this row holds from now on
abbrev pub lane_for : Shape → (row h : ℕ) → List Held → Option Held
lane_for shape row h held = in_lane row (hart_column shape h) (first_free held (hart_column shape h) 0 shape.lanes)

-- what the store of this row holds
abbrev pub held_by : ℕ → List Held → Option Held
held_by row [] = None
held_by row (h ∷ hs) = if h.row == row then Some h else held_by row hs

abbrev pub held_by_landed : Option ℕ → List Held → Option Held
held_by_landed None held = None
held_by_landed (Some row) held = held_by row held

-- what the other stores hold
abbrev pub others : ℕ → List Held → List Held
others row held = filter (λ h. not (h.row == row)) held

abbrev pub without_landed : Option ℕ → List Held → List Held
without_landed None held = held
without_landed (Some row) held = others row held

-- The lines of a row: its own, of the store that it makes or lands, and those that pass it.
pub record LanedOf : Type 0 where
  pub own : Option Held
  pub passing : List Held

abbrev pub own_line : Shape → (row : ℕ) → List Held → Option ℕ → Entry → Option Held
own_line shape row held landed (entry.Store h a width v) = lane_for shape row h held
own_line shape row held landed (entry.Land h) = held_by_landed landed held
own_line shape row held landed other = None

abbrev pub passing_lines : List Held → Option ℕ → Entry → List Held
passing_lines held landed (entry.Land h) = without_landed landed held
passing_lines held landed other = held

abbrev pub laned_row : Shape → (row : ℕ) → List Held → RowOf → LanedOf
laned_row shape row held r = record { own = own_line shape row held r.landed r.entry; passing = passing_lines held r.landed r.entry }

abbrev pub held_after_entry : Shape → (row : ℕ) → List Held → Option ℕ → Entry → List Held
held_after_entry shape row held landed (entry.Store h a width v) = held ++ option_to_list (lane_for shape row h held)
held_after_entry shape row held landed (entry.Land h) = without_landed landed held
held_after_entry shape row held landed other = held

abbrev pub held_after : Shape → (row : ℕ) → List Held → RowOf → List Held
held_after shape row held r = held_after_entry shape row held r.landed r.entry

-- what is held after some rows, of which the first has this number
abbrev pub held_from : Shape → (row : ℕ) → List Held → List RowOf → List Held
held_from shape row held [] = held
held_from shape row held (r ∷ rs) = held_from shape (row + 1) (held_after shape row held r) rs

abbrev pub lanes_from : Shape → (row : ℕ) → List Held → List RowOf → List LanedOf
lanes_from shape row held [] = []
lanes_from shape row held (r ∷ rs) = laned_row shape row held r ∷ lanes_from shape (row + 1) (held_after shape row held r) rs

-- the lines of each row, and what stands below the last one
abbrev pub lanes_of : Shape → List RowOf → List LanedOf
lanes_of shape rows = lanes_from shape 0 [] rows

abbrev pub held_at_end : Shape → List RowOf → List Held
held_at_end shape rows = held_from shape 0 [] rows

-- ---- the law

-- no two of these have one lane
abbrev pub AreLanesApart : List Held → Type 0
AreLanesApart [] = Unit {0}
AreLanesApart (h ∷ hs) = (is_held hs h.column h.lane ≡ false) × AreLanesApart hs

-- no two lines that stand at one row, its own with them, have one lane
abbrev pub IsApart : LanedOf → Type 0
IsApart l = AreLanesApart (option_to_list l.own ++ l.passing)
