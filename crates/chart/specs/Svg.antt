-- A picture in SVG 1.1: the same lines and cells as its text. A cell is 8 wide and a line 22 high. Each text has a
-- `textLength`, so that it takes the same cells in every font.
use Rattle.std.specs.Prelude.{ℕ, ◌+◌, ◌*◌, ◌%◌, ◌==◌, max, if◌then◌else◌, List, [], ◌∷◌, ◌++◌, length, codes}
use Rattle.std.specs.List.{flat_map}
use Rattle.std.specs.Fmt.{decimal}
use Rattle.step_machine.specs.declared.events.Entry.{Entry}
use Rattle.chart.specs.declared.pictures.Sign.{Sign}
use Rattle.chart.specs.declared.pictures.Sign.TheVariants.{Flat, Double, Reads, Down, Bend, Lands, From, Reader}
use Rattle.chart.specs.declared.pictures.Sign.TheVariants.{To, Joins, Cut, Open}
use Rattle.chart.specs.declared.pictures.Stroke.{Stroke}
use Rattle.chart.specs.declared.pictures.Weight.{Weight}
use Rattle.chart.specs.declared.pictures.Weight.TheVariants.{Quiet, Loud, Bold}
use Rattle.chart.specs.declared.scenes.Selection.{Selection}
use Rattle.chart.specs.declared.svg.Layer.{Layer}
use Rattle.chart.specs.declared.svg.Layer.TheVariants.{Below, Above}
use Rattle.chart.specs.Pictures.{MarkOf, LineOf, PictureOf, shown_byte}
use Rattle.chart.specs.Layout.{AboutOf, layout}

-- where a cell begins, the middle of a line, and where its texts stand
abbrev pub x_of : ℕ → ℕ
x_of cell = 16 + 8 * cell

abbrev pub y_of : ℕ → ℕ
y_of line = 22 + 22 * line

abbrev pub baseline : ℕ → ℕ
baseline line = 27 + 22 * line

-- what each element of a list makes, of which the first stands in this line and each other one a line below it
abbrev pub by_line : {A : Type 0} → (ℕ → A → List ℕ) → (line : ℕ) → List A → List ℕ
by_line f line [] = []
by_line f line (x ∷ xs) = f line x ++ by_line f (line + 1) xs

-- ---- texts

-- a byte of a text, where `&`, `<` and `>` would be read as marks
abbrev pub escaped : ℕ → List ℕ
escaped byte =
    if byte == 38 then codes "&amp;"
    else if byte == 60 then codes "&lt;"
    else if byte == 62 then codes "&gt;"
    else shown_byte byte ∷ []

unfoldable pub text_open : List ℕ
text_open = codes "<text xml:space='preserve' lengthAdjust='spacingAndGlyphs' textLength='"

unfoldable pub text_place : (class : List ℕ) → (cell line cells : ℕ) → List ℕ
text_place class cell line cells =
    decimal (8 * cells) ++ codes "' x='" ++ decimal (x_of cell) ++ codes "' y='" ++ decimal (baseline line)
    ++ codes "' class='" ++ class ++ codes "'"

-- a text from a cell on, with further attributes; nothing where it is empty
abbrev pub text_with : (class : List ℕ) → (cell line : ℕ) → (attributes : List ℕ) → List ℕ → List ℕ
text_with class cell line attributes text =
    if length text == 0 then []
    else text_open ++ text_place class cell line (length text) ++ attributes ++ codes ">" ++ flat_map escaped text ++ codes "</text>\n"

abbrev pub text_svg : (class : List ℕ) → (cell line : ℕ) → List ℕ → List ℕ
text_svg class cell line text = text_with class cell line [] text

abbrev pub weight_class : Weight → List ℕ
weight_class Quiet = codes "quiet"
weight_class Loud = codes "loud"
weight_class Bold = codes "bold"

-- a row is found by its number
abbrev pub row_id : (number : List ℕ) → List ℕ
row_id number = codes " id='row-" ++ flat_map escaped number ++ codes "'"

-- what is quiet is a row's number
abbrev pub attributes_of : Weight → List ℕ → List ℕ
attributes_of Quiet text = row_id text
attributes_of Loud text = []
attributes_of Bold text = []

abbrev pub mark_svg : (line : ℕ) → MarkOf → List ℕ
mark_svg line m = text_with (weight_class m.weight) m.at line (attributes_of m.weight m.text) m.text

-- ---- strokes

-- a path that begins at the left end of the stroke, in the middle of its line
unfoldable pub path_svg : (class : List ℕ) → (line : ℕ) → Stroke → (path : List ℕ) → List ℕ
path_svg class line s path =
    codes "<path class='" ++ class ++ codes "' d='M" ++ decimal (x_of s.at) ++ codes " " ++ decimal (y_of line)
    ++ path ++ codes "'/>\n"

-- one in its hart's colour, of which there are four
unfoldable pub hart_class : (class : List ℕ) → Stroke → List ℕ
hart_class class s = class ++ codes " hart" ++ decimal (s.hart % 4)

abbrev pub hart_path : (class : List ℕ) → (line : ℕ) → Stroke → (path : List ℕ) → List ℕ
hart_path class line s path = path_svg (hart_class class s) line s path

unfoldable pub level_path : Stroke → List ℕ
level_path s = codes "h" ++ decimal (8 * s.count)

-- a line across: what it crosses has a gap, by a wider line below it in the background's colour
abbrev pub level_svg : (class : List ℕ) → (line : ℕ) → Stroke → List ℕ
level_svg class line s = path_svg (codes "gap") line s (level_path s) ++ path_svg class line s (level_path s)

abbrev pub hart_level : (class : List ℕ) → (line : ℕ) → Stroke → List ℕ
hart_level class line s = level_svg (hart_class class s) line s

abbrev pub open_svg : (line : ℕ) → Stroke → List ℕ
open_svg line s =
    hart_path (codes "line") line s (codes "m4 -11v6") ++ hart_path (codes "head") line s (codes "m4 5l-5 -10h10z")

-- a pending store, downwards: what stands below all other strokes of its line
abbrev pub upright : (line : ℕ) → Stroke → List ℕ
upright line s = hart_path (codes "line") line s (codes "m4 -11v22")

abbrev pub below_by_sign : Sign → (line : ℕ) → Stroke → List ℕ
below_by_sign Down line s = upright line s
below_by_sign Joins line s = upright line s
below_by_sign other line s = []

-- lines across have gaps, corners are round, stores' and AMOs' heads and the dots of loads are filled
abbrev pub above_by_sign : Sign → (line : ℕ) → Stroke → List ℕ
above_by_sign Flat line s = hart_level (codes "line") line s
above_by_sign Double line s = hart_level (codes "thick") line s
above_by_sign Reads line s = level_svg (codes "read") line s
above_by_sign Down line s = []
above_by_sign Bend line s = hart_path (codes "line") line s (codes "m-2 0q6 0 6 6v5")
above_by_sign Lands line s = hart_path (codes "line") line s (codes "m4 -11v5q0 6 6 6")
above_by_sign From line s = hart_path (codes "head") line s (codes "l8 -5v10z")
above_by_sign Reader line s = path_svg (codes "tip") line s (codes "l8 -4v8z")
above_by_sign To line s = hart_path (codes "head") line s (codes "m10 0l-10 -5v10z")
above_by_sign Joins line s = hart_path (codes "head") line s (codes "a4 4 0 1 0 8 0a4 4 0 1 0 -8 0z")
above_by_sign Cut line s = hart_path (codes "line") line s (codes "h8m-4 -5v10")
above_by_sign Open line s = open_svg line s

abbrev pub stroke_svg : Layer → (line : ℕ) → Stroke → List ℕ
stroke_svg Below line s = below_by_sign s.sign line s
stroke_svg Above line s = above_by_sign s.sign line s

abbrev pub line_svg : (line : ℕ) → LineOf → List ℕ
line_svg line l =
    flat_map (stroke_svg Below line) l.strokes ++ flat_map (stroke_svg Above line) l.strokes ++ flat_map (mark_svg line) l.marks

-- ---- the whole

-- the cells of the longest of some texts, or of what is beside them
abbrev pub widest : ℕ → List (List ℕ) → ℕ
widest cells [] = cells
widest cells (t ∷ ts) = widest (max cells (length t)) ts

-- the picture's lines, with a blank one above the columns' heads and one below the rows
abbrev pub width_svg : PictureOf → ℕ
width_svg p = 32 + 8 * widest (widest p.width p.head) p.foot

abbrev pub height_svg : PictureOf → ℕ
height_svg p = 22 + 22 * (length p.head + length p.body + length p.foot + 3)

abbrev pub svg_text_line : List ℕ → List ℕ
svg_text_line text = flat_map escaped text ++ codes "\n"

-- the light colours, and the dark ones
unfoldable pub style_svg : List ℕ
style_svg =
    codes "<style type='text/css'>text{font:13px ui-monospace,'DejaVu Sans Mono',Menlo,Consolas,"
    ++ codes "'Liberation Mono',monospace;fill:currentColor}.bold{font-weight:bold}\n"
    ++ codes ".line,.thick,.read,.gap,.rule{fill:none;stroke:currentColor;stroke-width:2}.thick{stroke-width:3}\n"
    ++ codes ".read{stroke-width:1;stroke-dasharray:4 3}.head,.tip{fill:currentColor}.rule{stroke-width:1}\n"
    ++ codes ".gap{stroke-width:7}svg{color:#1b1f24}.quiet,.read,.tip{color:#57606a}.rule{color:#a8b0b9}\n"
    ++ codes ".back{fill:#ffffff}.gap{color:#ffffff}.hart0{color:#0b5cad}.hart1{color:#b34700}\n"
    ++ codes ".hart2{color:#00734d}.hart3{color:#8a2f80}@media (prefers-color-scheme:dark){\n"
    ++ codes "svg{color:#e6edf3}.quiet,.read,.tip{color:#a3adb8}.rule{color:#5c656f}.back{fill:#0d1117}\n"
    ++ codes ".gap{color:#0d1117}.hart0{color:#79b8ff}.hart1{color:#ffab70}.hart2{color:#6fdcb0}\n"
    ++ codes ".hart3{color:#e6a3dd}}</style>\n"

-- `width='656' height='290'`
unfoldable pub size_svg : PictureOf → List ℕ
size_svg p = codes "width='" ++ decimal (width_svg p) ++ codes "' height='" ++ decimal (height_svg p) ++ codes "'"

unfoldable pub root_start : List ℕ
root_start = codes "<?xml version='1.0'?>\n<svg xmlns='http://www.w3.org/2000/svg' version='1.1' role='img' "

unfoldable pub root_svg : PictureOf → List ℕ
root_svg p = root_start ++ size_svg p ++ codes ">\n"

-- the picture in words: what it is of, how many harts and rows it has, and what stands below them
unfoldable pub title_start : List ℕ
title_start = codes "<title>A run of "

unfoldable pub title_svg : PictureOf → List ℕ
title_svg p = title_start ++ flat_map svg_text_line p.head ++ codes "</title>\n"

unfoldable pub counts_svg : (harts rows : ℕ) → List ℕ
counts_svg harts rows = codes "harts: " ++ decimal harts ++ codes ", rows: " ++ decimal rows ++ codes "\n"

unfoldable pub desc_svg : (harts rows : ℕ) → PictureOf → List ℕ
desc_svg harts rows p = codes "<desc>" ++ counts_svg harts rows ++ flat_map svg_text_line p.foot ++ codes "</desc>\n"

unfoldable pub back_start : List ℕ
back_start = codes "<rect class='back' "

unfoldable pub back_svg : PictureOf → List ℕ
back_svg p = back_start ++ size_svg p ++ codes "/>\n"

-- what stands in a group counts its lines from the group's first one
unfoldable pub group_start : (line : ℕ) → List ℕ
group_start line = codes "<g transform='translate(0 " ++ decimal (22 * line) ++ codes ")'>\n"

unfoldable pub grouped : (line : ℕ) → List ℕ → List ℕ
grouped line inside = group_start line ++ inside ++ codes "</g>\n"

unfoldable pub rule_svg : PictureOf → List ℕ
rule_svg p = codes "<path class='rule' d='M16 33h" ++ decimal (8 * p.width) ++ codes "'/>\n"

abbrev pub texts_svg : (class : List ℕ) → List (List ℕ) → List ℕ
texts_svg class texts = by_line (text_svg class 0) 0 texts

abbrev pub lines_svg : List LineOf → List ℕ
lines_svg lines = by_line line_svg 0 lines

-- the heads of the columns, and a line below them
abbrev pub heads_group : PictureOf → List ℕ
heads_group p = grouped (length p.head + 1) (flat_map (mark_svg 0) p.heads.marks ++ rule_svg p)

abbrev pub body_group : PictureOf → List ℕ
body_group p = grouped (length p.head + 2) (lines_svg p.body)

abbrev pub foot_group : PictureOf → List ℕ
foot_group p = grouped (length p.head + length p.body + 3) (texts_svg (codes "loud") p.foot)

unfoldable pub front_svg : (harts rows : ℕ) → PictureOf → List ℕ
front_svg harts rows p = root_svg p ++ title_svg p ++ desc_svg harts rows p ++ style_svg ++ back_svg p

unfoldable pub inside_svg : PictureOf → List ℕ
inside_svg p = texts_svg (codes "bold") p.head ++ heads_group p ++ body_group p ++ foot_group p

unfoldable pub picture_svg : (harts rows : ℕ) → PictureOf → List ℕ
picture_svg harts rows p = front_svg harts rows p ++ inside_svg p ++ codes "</svg>\n"

-- the picture of a run with these entries, of which these rows are drawn
abbrev pub chart_svg : Selection → AboutOf → List Entry → List ℕ
chart_svg selection about es = picture_svg about.harts (length es) (layout selection about es)
