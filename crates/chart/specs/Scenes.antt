-- The texts of a row: what it says beside its instruction, with the tag of its sources, and in memory's
-- column. The row's hart is that of its entry. What a picture is drawn of: a run's rows, and what they say in
-- a form of it.
use Rattle.std.specs.Prelude.{ℕ, List, map, zero, suc, ◌+◌, ◌-◌, ◌==◌, nat_lt, min, max, if◌then◌else◌, Bool, true, false, [], ◌∷◌, ◌++◌, length, codes, Option}
use Rattle.std.specs.Prelude.{None, Some, unwrap_or}
use Rattle.step_machine.specs.declared.events.Entry.{Entry}
use Rattle.step_machine.specs.Entries.{hart_of}
use Rattle.chart.specs.Rows.{RowOf, rows_of}
use Rattle.chart.specs.Sayings.{effect_text, memory_text}
use Rattle.chart.specs.Tags.{tag_text}
use Rattle.std.specs.List.{slice_get}
use Rattle.std.specs.Fmt.{decimal}
use Rattle.step_machine.specs.declared.events.Entry.TheVariants as entry
use Rattle.chart.specs.declared.lanes.Held.{Held}
use Rattle.chart.specs.declared.lanes.Shape.{Shape}
use Rattle.chart.specs.declared.places.Places.{Places}
use Rattle.chart.specs.declared.least_widths.LeastWidths.{LeastWidths}
use Rattle.chart.specs.declared.scenes.Form.{Form}
use Rattle.chart.specs.declared.scenes.Selection.{Selection}
use Rattle.chart.specs.declared.scenes.Selection.TheVariants.{EveryRow, MemoryRows}
use Rattle.chart.specs.declared.scenes.TheConstants.{LONGEST_TEXT}
use Rattle.chart.specs.Lanes.{LanedOf, lanes_of}

pub record RowTextOf : Type 0 where
  pub hart : ℕ
  pub effect : List ℕ
  pub tag : List ℕ
  pub memory : List ℕ

abbrev pub text_of_row : List (List ℕ) → List Entry → RowOf → RowTextOf
text_of_row names es r =
    record { hart = hart_of r.entry; effect = effect_text names r.entry; tag = tag_text r.sources; memory = memory_text names es r.landed r.entry }

abbrev pub row_texts : List (List ℕ) → List Entry → List RowOf → List RowTextOf
row_texts names es rows = map (text_of_row names es) rows

-- an instruction that neither touches memory nor waits for it, ends its hart or reports
abbrev pub is_inner : Entry → Bool
is_inner (entry.Inner h) = true
is_inner other = false

-- which entries have no row in the picture; the rows of the others keep their numbers
abbrev pub has_no_row : Selection → Entry → Bool
has_no_row EveryRow e = false
has_no_row MemoryRows e = is_inner e

-- whose rows are drawn though they have nothing except an instruction to show
abbrev pub is_bare : Selection → Entry → Bool
is_bare EveryRow e = is_inner e
is_bare MemoryRows e = false

-- which rows are drawn, the locations' names, the instruction of each entry, the entries with their rows, how many
-- harts there are, and how wide their columns are at least
pub record SceneOf : Type 0 where
  pub selection : Selection
  pub names : List (List ℕ)
  pub instructions : List (List ℕ)
  pub entries : List Entry
  pub rows : List RowOf
  pub harts : ℕ
  pub least : LeastWidths

abbrev pub scene_of : Selection → (names instructions : List (List ℕ)) → List Entry → (harts : ℕ) → LeastWidths → SceneOf
scene_of selection names instructions es harts least = record {
  selection = selection;
  names = names;
  instructions = instructions;
  entries = es;
  rows = rows_of es;
  harts = harts;
  least = least;
}

-- ---- what rows say

-- a text and one more, with a gap between two that aren't empty
abbrev pub beside : (gap text more : List ℕ) → List ℕ
beside gap text more = if length more == 0 then text else if length text == 0 then more else text ++ gap ++ more

abbrev pub hart_name : ℕ → List ℕ
hart_name h = codes "P" ++ decimal h

-- where all harts share a column, a row begins with its hart's name
abbrev pub caller : Form → ℕ → List ℕ
caller form h = if form.listed then hart_name h else []

abbrev pub shown_instruction : Form → List ℕ → List ℕ
shown_instruction form instruction = if form.instructions then instruction else []

-- a text, or `...` where it is too long
unfoldable pub cut_text : List ℕ → List ℕ
cut_text text = if nat_lt LONGEST_TEXT (length text) then codes "..." else text

-- `P0  sw x5,0(x6)  x := 1` or `lw x7,0(x8)  y = 0 [init]`
abbrev pub label : Form → (instruction : List ℕ) → RowTextOf → List ℕ
label form instruction t =
    cut_text (beside (codes " ") (beside (codes "  ") (beside (codes "  ") (caller form t.hart) (shown_instruction form instruction)) t.effect) t.tag)

-- a landing in memory names the row of its store: `x = 1 [1]`
abbrev pub of_row : Form → Option ℕ → List ℕ
of_row form None = []
of_row form (Some row) = if form.stores then codes " [" ++ decimal (row + 1) ++ codes "]" else []

-- the instruction of row i, if there is one
abbrev pub row_instruction : SceneOf → ℕ → List ℕ
row_instruction scene i = unwrap_or (slice_get scene.instructions i) []

abbrev pub label_of_drawn : Form → SceneOf → ℕ → Option RowOf → List ℕ
label_of_drawn form scene i None = []
label_of_drawn form scene i (Some r) = if has_no_row scene.selection r.entry then []
    else label form (row_instruction scene i) (text_of_row scene.names scene.entries r)

abbrev pub row_label : Form → SceneOf → ℕ → List ℕ
row_label form scene i = label_of_drawn form scene i (slice_get scene.rows i)

abbrev pub kept_in : Form → SceneOf → Option RowOf → List ℕ
kept_in form scene None = []
kept_in form scene (Some r) = cut_text ((text_of_row scene.names scene.entries r).memory ++ of_row form r.landed)

abbrev pub kept_at : Form → SceneOf → ℕ → List ℕ
kept_at form scene i = kept_in form scene (slice_get scene.rows i)

-- ---- how much room it takes

-- the cells of the last hart's name and of the gap after it, where a row begins with its hart's name
abbrev pub caller_cells : Form → (harts : ℕ) → ℕ
caller_cells form harts = if form.listed then length (hart_name (harts - 1)) + 2 else 0

-- the cells of a column's text, whatever the run: after its hart's name, and with it
abbrev pub least_own : Form → LeastWidths → ℕ
least_own form least = if form.instructions then least.label else least.brief

abbrev pub least_label : Form → SceneOf → ℕ
least_label form scene = min 255 (caller_cells form scene.harts + least_own form scene.least)

-- the most cells that one of the first n rows takes, and no less than a column has
abbrev pub widest_label : Form → SceneOf → ℕ → ℕ
widest_label form scene zero = least_label form scene
widest_label form scene (suc n) = max (widest_label form scene n) (length (row_label form scene n))

abbrev pub widest_kept : Form → SceneOf → ℕ → ℕ
widest_kept form scene zero = max 6 scene.least.kept
widest_kept form scene (suc n) = max (widest_kept form scene n) (length (kept_at form scene n))

abbrev pub label_cells : Form → SceneOf → ℕ
label_cells form scene = widest_label form scene (length scene.rows)

abbrev pub kept_cells : Form → SceneOf → ℕ
kept_cells form scene = widest_kept form scene (length scene.rows)

-- the lanes of a column, whatever the run
abbrev pub least_lanes : Form → LeastWidths → ℕ
least_lanes form least = min form.lanes (if form.listed then least.listed_lanes else least.lanes)

-- the lanes that lines use
abbrev pub lanes_to : Option Held → ℕ
lanes_to None = 0
lanes_to (Some h) = min h.lane 254 + 1

abbrev pub lanes_at : LanedOf → ℕ
lanes_at l = lanes_to l.own

abbrev pub used_after : ℕ → List LanedOf → ℕ
used_after used [] = used
used_after used (l ∷ ls) = used_after (max used (lanes_at l)) ls

abbrev pub shape_of : Form → Shape
shape_of form = record { listed = form.listed; lanes = form.lanes }

abbrev pub lanes_in : Form → SceneOf → List LanedOf
lanes_in form scene = lanes_of (shape_of form) scene.rows

abbrev pub places_of : Form → SceneOf → Places
places_of form scene = record {
  listed = form.listed;
  harts = scene.harts;
  text = label_cells form scene;
  lanes = used_after (least_lanes form scene.least) (lanes_in form scene);
}
