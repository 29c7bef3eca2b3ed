-- A run's picture: the first form that is narrow enough, and the last one where none is.
use Rattle.std.specs.Prelude.{ℕ, zero, suc, ◌≡◌, ◌+◌, ◌*◌, min, max, nat_le, if◌then◌else◌, Bool, true, false, List, [], ◌∷◌}
use Rattle.std.specs.Prelude.{◌++◌, length, map, codes, Option, None, Some}
use Rattle.std.specs.List.{list_any, slice_get}
use Rattle.std.specs.Fmt.{decimal}
use Rattle.step_machine.specs.declared.events.Entry.{Entry}
use Rattle.chart.specs.declared.sources.RowWrite.{RowWrite}
use Rattle.chart.specs.declared.least_widths.LeastWidths.{LeastWidths}
use Rattle.chart.specs.declared.scenes.Form.{Form}
use Rattle.chart.specs.declared.scenes.Selection.{Selection}
use Rattle.chart.specs.Sayings.{part_name}
use Rattle.chart.specs.Sources.{pending_by_row}
use Rattle.chart.specs.Lanes.{held_at_end}
use Rattle.chart.specs.Pictures.{LineOf, PictureOf, picture_text}
use Rattle.chart.specs.Places.{memory_cell}
use Rattle.chart.specs.Scenes.{SceneOf, is_bare, scene_of, least_label, label_cells, kept_cells, least_lanes, used_after}
use Rattle.chart.specs.Scenes.{lanes_in, shape_of, places_of}
use Rattle.chart.specs.Lines.{row_lines, open_lines, heads_line}

-- an observed location of the condition, with its last value
pub record LastValueOf : Type 0 where
  pub left : List ℕ
  pub value : ℕ

-- what is known of a run beside its entries: the test's name, how many harts it has, how wide their columns are
-- at least, the locations' names, the instruction of each entry, the last values, the verdict and the condition
pub record AboutOf : Type 0 where
  pub name : List ℕ
  pub harts : ℕ
  pub least : LeastWidths
  pub names : List (List ℕ)
  pub instructions : List (List ℕ)
  pub values : List LastValueOf
  pub verdict : List ℕ
  pub condition : List ℕ

-- ---- below the lines

-- `still pending: P0 x := 1 [1]`
abbrev pub pending_line : AboutOf → (h : ℕ) → RowWrite → List ℕ
pending_line about h w =
    codes "still pending: P" ++ decimal h ++ codes " " ++ part_name about.names w.write.addr w.write.width
    ++ codes " := " ++ decimal w.write.value ++ codes " [" ++ decimal (w.row + 1) ++ codes "]"

abbrev pub pending_text : AboutOf → (h : ℕ) → Option RowWrite → List ℕ
pending_text about h None = []
pending_text about h (Some w) = pending_line about h w

-- the lines of the first n of a hart's pending stores
abbrev pub first_pending : AboutOf → (h : ℕ) → List RowWrite → ℕ → List (List ℕ)
first_pending about h ws zero = []
first_pending about h ws (suc n) = first_pending about h ws n ++ pending_text about h (slice_get ws n) ∷ []

abbrev pub pending_of_hart : AboutOf → (h : ℕ) → List RowWrite → List (List ℕ)
pending_of_hart about h ws = first_pending about h ws (length ws)

-- of the first n harts
abbrev pub pending_lines : AboutOf → List Entry → ℕ → List (List ℕ)
pending_lines about es zero = []
pending_lines about es (suc n) = pending_lines about es n ++ pending_of_hart about n (pending_by_row n es)

-- `last value: 0:x7 = 0`
abbrev pub last_value_text : List ℕ → ℕ → List ℕ
last_value_text left value = codes "last value: " ++ left ++ codes " = " ++ decimal value

abbrev pub value_line : LastValueOf → List ℕ
value_line v = last_value_text v.left v.value

-- `Holds: exists (0:x7=0 /\\ 1:x7=0)`
abbrev pub verdict_text : (verdict condition : List ℕ) → List ℕ
verdict_text verdict condition = verdict ++ codes ": " ++ condition

abbrev pub verdict_foot : AboutOf → List ℕ
verdict_foot about = verdict_text about.verdict about.condition

abbrev pub head_of : AboutOf → List (List ℕ)
head_of about = about.name ∷ []

abbrev pub pending_of_run : AboutOf → List Entry → List (List ℕ)
pending_of_run about es = pending_lines about es about.harts

abbrev pub foot_of : AboutOf → List Entry → List (List ℕ)
foot_of about es = pending_of_run about es ++ map value_line about.values ++ verdict_foot about ∷ []

-- ---- forms

-- a column for each hart, with instructions and without; one column for all; and what needs the least room
abbrev pub wide : Form
wide = record { listed = false; instructions = true; lanes = 6; stores = true }

abbrev pub brief : Form
brief = record { listed = false; instructions = false; lanes = 6; stores = true }

abbrev pub listed : Form
listed = record { listed = true; instructions = true; lanes = 6; stores = true }

abbrev pub brief_listed : Form
brief_listed = record { listed = true; instructions = false; lanes = 6; stores = true }

abbrev pub narrowest : Form
narrowest = record { listed = true; instructions = false; lanes = 0; stores = false }

abbrev pub width_of : Form → SceneOf → ℕ
width_of form scene = memory_cell (places_of form scene) + kept_cells form scene

-- the most cells of a line for this number of harts
abbrev pub limit : ℕ → ℕ
limit harts = if nat_le harts 2 then 110 else min (20 + 40 * harts) 200

-- the form, or another one where it is too wide
abbrev pub form_or : SceneOf → (most : ℕ) → (form other : Form) → Form
form_or scene most form other = if nat_le (width_of form scene) most then form else other

abbrev pub fitting_form : SceneOf → (most : ℕ) → Form
fitting_form scene most =
    form_or scene most wide (form_or scene most brief (form_or scene most listed (form_or scene most brief_listed narrowest)))

-- ---- the picture

abbrev pub body_of : Form → SceneOf → List LineOf
body_of form scene =
    row_lines form scene (places_of form scene) (lanes_in form scene)
    ++ open_lines (places_of form scene) (held_at_end (shape_of form) scene.rows)

-- ---- what a form leaves out, below all else

abbrev pub has_bare : SceneOf → Bool
has_bare scene = list_any (is_bare scene.selection) scene.entries

abbrev pub bare_hints : SceneOf → List (List ℕ)
bare_hints scene = if has_bare scene then codes "hint: --memory leaves out rows of instructions that only compute or jump" ∷ [] else []

abbrev pub hints_of : Form → SceneOf → List (List ℕ)
hints_of form scene = if form.instructions then [] else codes "left out: the instructions, since columns would be too wide" ∷ bare_hints scene

abbrev pub picture_in : Form → SceneOf → (head foot : List (List ℕ)) → PictureOf
picture_in form scene head foot = record {
  head = head;
  heads = heads_line (places_of form scene);
  body = body_of form scene;
  foot = foot ++ hints_of form scene;
  width = width_of form scene;
}

abbrev pub picture_of : (harts : ℕ) → SceneOf → (head foot : List (List ℕ)) → PictureOf
picture_of harts scene head foot = picture_in (fitting_form scene (limit harts)) scene head foot

abbrev pub scene_of_run : Selection → AboutOf → List Entry → SceneOf
scene_of_run selection about es = scene_of selection about.names about.instructions es about.harts about.least

-- the picture of a run with these entries, of which these rows are drawn
abbrev pub layout : Selection → AboutOf → List Entry → PictureOf
layout selection about es = picture_of about.harts (scene_of_run selection about es) (head_of about) (foot_of about es)

abbrev pub chart_text : Selection → AboutOf → List Entry → List ℕ
chart_text selection about es = picture_text (layout selection about es)

-- ---- the law

-- no row's text, none of memory's and no lane is outside what columns have whatever the run
pub record FitsColumns (scene : SceneOf) (form : Form) : Type 0 where
  pub label : label_cells form scene ≡ least_label form scene
  pub kept : kept_cells form scene ≡ max 6 scene.least.kept
  pub lanes : used_after (least_lanes form scene.least) (lanes_in form scene) ≡ least_lanes form scene.least
