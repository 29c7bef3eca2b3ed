-- No text of a picture's rows stands on another text or on a stroke, and no head of a column on another one.
use Rattle.std.proofs.Common.{◌≡◌, ℕ, zero, suc, ◌+◌, ◌<◌, ◌≤◌, ◌^◌, Bool, true, false, if◌then◌else◌, List, [], ◌∷◌, length, Option, Some, All, refl, sym, ◌∙◌}
use Rattle.std.proofs.Common.{ap, arith, ◌*◌, min, cond, ◌⊎◌, inl, inr, ◌++◌}
use Rattle.std.specs.List.{slice_get, list_any, count_by}
use Rattle.std.proofs.lemmas.Bool.{cases_eq, cases_Bool}
use Rattle.std.proofs.lemmas.List.{length-map, length-append}
use Rattle.std.proofs.lemmas.List.Elements.{All-nil, All-cons, All-append}
use Rattle.std.specs.Prelude.{codes}
use Rattle.std.proofs.Math.Nat.{suc-mul}
use Rattle.std.proofs.lemmas.Fmt.{length-decimal-le}
use Rattle.std.proofs.lemmas.List.Sums.{sum_by-append}
use Rattle.step_machine.specs.declared.events.Entry.{Entry}
use Rattle.step_machine.specs.Entries.{hart_of}
use Rattle.chart.specs.{Held, Stroke, LeastWidths, Form, Selection, RowOf, rows_of, LanedOf, held_at_end, LineOf, strikes, IsClear, SceneOf, scene_of, Bold}
use Rattle.chart.specs.{row_label, widest_label, label_cells, shape_of, least_lanes, lanes_in, places_of, used_after, laned_line, line_in, picture_line, pitch}
use Rattle.chart.specs.{is_without_line, drawn_at, first_row_lines, open_lines, AboutOf, layout, limit, form_or, fitting_form, body_of, stands_in, first_cell}
use Rattle.chart.specs.{memory_cell, hart_name, text_at, head_mark, head_marks, heads_line}
use Rattle.chart.specs.declared.places.Places.{Places}
use Rattle.chart.proofs.Clear.{row_clear, struck_at, one_of}
use Rattle.chart.proofs.Placed.{RowFits, row_fits, columns_there}
use Rattle.chart.proofs.StepLaws.{entries_of_rows}

-- No head of a column stands on another one.

abbrev apart : (harts text lanes : ℕ) → Places
apart harts text lanes = record { listed = false; harts = harts; text = text; lanes = lanes }

starts : (harts text lanes n : ℕ) → n ≤ 255 → first_cell (apart harts text lanes) n ≡ 7 + n * pitch (apart harts text lanes)
starts harts text lanes n few = let least : min n 255 ≡ n = omega (few, arith) in rw least refl

count-append : {X : Type 0} (p : X → Bool) (xs ys : List X) → count_by p (xs ++ ys) ≡ count_by p xs + count_by p ys
count-append p xs ys = sum_by-append (λ x. cond (p x) 1 0) xs ys

-- ---- heads

short_name : (n : ℕ) → n ≤ 255 → length (hart_name n) ≤ 4
short_name n few = grind (arith, length-decimal-le, length-append)

-- one head more: at its cells none of those before stands
one_more : (before one left length width cell : ℕ) → before ≤ 1 → (7 + left ≤ cell → before ≡ 0) →
    ((one ≡ 1) × (7 + left ≤ cell) × (cell < 7 + left + length) × (length ≤ width)) ⊎ (one ≡ 0) →
    (before + one ≤ 1) × (7 + (left + width) ≤ cell → before + one ≡ 0)
one_more before one left length width cell most past h8 = grind arith

head_there : (p : Places) (n cell : ℕ) → n ≤ 255 → (left : ℕ) → first_cell p n ≡ 7 + left →
    ((count_by (stands_in cell) (head_mark p n ∷ []) ≡ 1) × (7 + left ≤ cell) × (cell < 7 + left + length (hart_name n)) × (length (hart_name n) ≤ pitch p))
    ⊎ (count_by (stands_in cell) (head_mark p n ∷ []) ≡ 0)
head_there p n cell few left at = grind (arith, cases_Bool, struck_at, short_name)

heads_apart : (harts text lanes n cell : ℕ) → n ≤ 255 →
    (count_by (stands_in cell) (head_marks (apart harts text lanes) n) ≤ 1)
    × (7 + n * pitch (apart harts text lanes) ≤ cell → count_by (stands_in cell) (head_marks (apart harts text lanes) n) ≡ 0)
heads_apart harts text lanes zero cell few = (omega arith, λ past. refl)
heads_apart harts text lanes (suc n) cell few =
    let p = apart harts text lanes in
    let marks = head_marks p n in
    let rest = heads_apart harts text lanes n cell (omega (few, arith)) in
    rw (count-append (stands_in cell) marks (head_mark p n ∷ []), suc-mul n (pitch p))
    (one_more (count_by (stands_in cell) marks) (count_by (stands_in cell) (head_mark p n ∷ [])) (n * pitch p)
    (length (hart_name n)) (pitch p) cell rest.0 rest.1
    (head_there p n cell (omega (few, arith)) (n * pitch p) (starts harts text lanes n (omega (few, arith)))))

-- the heads and that of memory, which stands to the right of the columns
with_memory : (harts text lanes cell : ℕ) → harts ≤ 255 →
    count_by (stands_in cell) (head_marks (apart harts text lanes) harts
    ++ text_at (memory_cell (apart harts text lanes)) Bold (codes "memory") ∷ []) + 0 ≤ 1
with_memory harts text lanes cell few =
    let p = apart harts text lanes in
    let heads = head_marks p harts in
    let memory = text_at (memory_cell p) Bold (codes "memory") in
    let before = heads_apart harts text lanes harts cell few in
    let parts : count_by (stands_in cell) (heads ++ memory ∷ []) ≡ count_by (stands_in cell) heads + count_by (stands_in cell) (memory ∷ []) =
    count-append (stands_in cell) heads (memory ∷ []) in
    let columns : min harts 255 ≡ harts = omega (few, arith) in
    elim (cases_Bool (stands_in cell memory)) [
      | inl here ↦
          let low : memory_cell p ≤ cell = (struck_at (memory_cell p) 6 cell here).0 in
          let after : 9 + harts * pitch p ≤ cell = rw columns at low in
          let none : count_by (stands_in cell) heads ≡ 0 = before.1 (omega (after, arith)) in
          let one : count_by (stands_in cell) (memory ∷ []) ≡ 1 = rw here refl in
          omega (parts, none, one, arith)
      | inr other ↦
          let none : count_by (stands_in cell) (memory ∷ []) ≡ 0 = rw other refl in
          let most : count_by (stands_in cell) heads ≤ 1 = before.0 in
          omega (parts, most, none, arith)
    ]

pub heads_clear : (harts : ℕ) (listed : Bool) (text lanes : ℕ) → harts ≤ 255 →
    IsClear (heads_line (record { listed = listed; harts = harts; text = text; lanes = lanes }))
heads_clear harts true text lanes few cell = grind (arith, struck_at, one_of)
heads_clear harts false text lanes few cell = with_memory harts text lanes cell few

-- ---- a line

no_texts : (ss : List Stroke) → IsClear (record { marks = []; strokes = ss })
no_texts ss cell = elim (list_any (λ s. strikes s cell) ss) as (λ b. 0 + (if b then 1 else 0) ≤ 1) [ true ↦ omega arith | false ↦ omega arith ]

laned_clear : (form : Form) (scene : SceneOf) (p : Places) (i : ℕ) (r : RowOf) (lo : Option LanedOf) → i + 1 < 10 ^ 7 →
    length (row_label form scene i) ≤ p.text → RowFits p (shape_of form) (Some r) lo → IsClear (laned_line form scene p i r lo)
laned_clear form scene p i r lo few room fits = grind (arith, no_texts, row_clear)

line_clear : (form : Form) (scene : SceneOf) (p : Places) (lanes : List LanedOf) (i : ℕ) (ro : Option RowOf) → i + 1 < 10 ^ 7 →
    length (row_label form scene i) ≤ p.text → RowFits p (shape_of form) ro (slice_get lanes i) → IsClear (line_in form scene p lanes i ro)
line_clear form scene p lanes i ro few room fits = grind (arith, no_texts, laned_clear)

-- ---- all lines

label_most : (form : Form) (scene : SceneOf) (i n : ℕ) → i < n → length (row_label form scene i) ≤ widest_label form scene n
label_most form scene i zero below = absurd (omega (below, arith))
label_most form scene i (suc n) below = grind (arith, cases_eq, label_most form scene i n)

drawn_clear : (left_out : Bool) (line : LineOf) → IsClear line → All IsClear (if left_out then [] else line ∷ [])
drawn_clear true line clear = All-nil IsClear
drawn_clear false line clear = All-cons IsClear line [] clear (All-nil IsClear)

lines_clear : (form : Form) (scene : SceneOf) (p : Places) (lanes : List LanedOf) (n : ℕ) → n ≤ length scene.rows → length scene.rows < 10 ^ 7 →
    p.text ≡ label_cells form scene → ((i : ℕ) → RowFits p (shape_of form) (slice_get scene.rows i) (slice_get lanes i)) →
    All IsClear (first_row_lines form scene p lanes n)
lines_clear form scene p lanes zero within few room fits = All-nil IsClear
lines_clear form scene p lanes (suc n) within few room fits =
    let label : length (row_label form scene n) ≤ label_cells form scene = label_most form scene n (length scene.rows) (omega (within, arith)) in
    All-append IsClear (first_row_lines form scene p lanes n) (drawn_at form scene p lanes n)
    (lines_clear form scene p lanes n (omega (within, arith)) few room fits)
    (drawn_clear (is_without_line scene (slice_get scene.rows n)) (picture_line form scene p lanes n)
    (line_clear form scene p lanes n (slice_get scene.rows n) (omega (within, few, arith)) (omega (label, room, arith)) (fits n)))

open_clear : (p : Places) (hs : List Held) → All IsClear (open_lines p hs)
open_clear p hs = grind (arith, All-nil, All-cons, no_texts)

-- ---- the picture

form_or-lanes : (scene : SceneOf) (most : ℕ) (form other : Form) → form.lanes ≤ 6 → other.lanes ≤ 6 → (form_or scene most form other).lanes ≤ 6
form_or-lanes scene most form other first second = grind arith

form_lanes : (scene : SceneOf) (most : ℕ) → (fitting_form scene most).lanes ≤ 6
form_lanes scene most = grind (arith, form_or-lanes)

rows_count : (es : List Entry) → length (rows_of es) ≡ length es
rows_count es = sym (length-map (rows_of es) (λ (r : RowOf). r.entry)) ∙ ap (λ (fs : List Entry). length fs) (entries_of_rows es)

form_clear : (form : Form) (selection : Selection) (names instructions : List (List ℕ)) (es : List Entry) (harts : ℕ) (least : LeastWidths) →
    form.lanes ≤ 6 → harts ≤ 255 → All (λ e. hart_of e < harts) es → length es < 10 ^ 7 →
    All IsClear (body_of form (scene_of selection names instructions es harts least))
form_clear form selection names instructions es harts least lanes few below rows =
    let scene = scene_of selection names instructions es harts least in
    let free = least_lanes form least in
    let p = places_of form scene in
    let count : length (rows_of es) ≡ length es = rows_count es in
    All-append IsClear (first_row_lines form scene p (lanes_in form scene) (length scene.rows)) (open_lines p (held_at_end (shape_of form) scene.rows))
    (lines_clear form scene p (lanes_in form scene) (length scene.rows) (omega arith) (omega (count, rows, arith)) refl
    (λ i. row_fits p (shape_of form) es free i refl
    (columns_there es harts form.listed (label_cells form scene) (used_after free (lanes_in form scene)) form.lanes few below) (omega (lanes, arith))))
    (open_clear p (held_at_end (shape_of form) scene.rows))

pub picture_clear : (selection : Selection) (about : AboutOf) (es : List Entry) → about.harts ≤ 255 → All (λ e. hart_of e < about.harts) es →
    length es < 10 ^ 7 → All IsClear (layout selection about es).body
picture_clear selection about es few below rows =
    let scene = scene_of selection about.names about.instructions es about.harts about.least in
    let form = fitting_form scene (limit about.harts) in
    form_clear form selection about.names about.instructions es about.harts about.least (form_lanes scene (limit about.harts)) few below rows

pub heads_of_picture : (selection : Selection) (about : AboutOf) (es : List Entry) → about.harts ≤ 255 → IsClear (layout selection about es).heads
heads_of_picture selection about es few =
    let scene = scene_of selection about.names about.instructions es about.harts about.least in
    let form = fitting_form scene (limit about.harts) in
    heads_clear about.harts form.listed (label_cells form scene) (used_after (least_lanes form about.least) (lanes_in form scene)) few
