-- The columns of a table, and the rows that their cells stand in.
use Rattle.std.proofs.Common.{◌≡◌, ℕ, suc, zero, ◌+◌, ◌≤◌, List, [], ◌∷◌, ◌++◌, length, replicate, Option, Some, None, Ok, refl, sym, ap, subst, ◌∙◌, inl, inr}
use Rattle.std.proofs.Common.{◌⊎◌, arith}
use Rattle.std.specs.Prelude.{unwrap_or}
use Rattle.std.specs.List.{slice_index_or, AllByRecursion}
use Rattle.std.proofs.lemmas.Bool.{cases_Bool, le-ltb, eq-eqb, eqb-true}
use Rattle.std.proofs.lemmas.List.{length-replicate}
use Rattle.texts.specs.{◌>>=◌, before, after, is_byte, AreBlanks, pieces, pieces_after}
use Rattle.texts.proofs.ResultLaws.{ok_is, bind_ok}
use Rattle.assembler.specs.Drafts.{Refusal, Line, word_count, drafted, all_drafted, all_instructions}
use Rattle.assembler.proofs.ProgramGrammar.{all_found, all_only, finished-found, finished_only, none_above}
use Rattle.litmus_reader.specs.{LitmusFault, Column, Code, as_instr, cell_added, cells_added, line_added, lines_added, table_from, table_at, codes_of}
use Rattle.litmus_reader.specs.{before_line, from_line, harts_in, IsVisible, Cells, IsRow, AreRows, IsTable, column_of, IsColumnCode}
use Rattle.litmus_reader.specs.declared.marks.Mark.TheVariants as mark
use Rattle.litmus_reader.specs.Columns.AreRows.{none, blank, row}
use Rattle.litmus_reader.proofs.TableLaws.{as_instr-ok}
use Rattle.litmus_reader.proofs.ShapeLaws.{cut_found, cut_only, visible_matches, line_found, line_only}
use Rattle.litmus_reader.proofs.RowGrammar.{blank_found, blank_only, row_found, row_only, first_row_found, first_row_only}
use Rattle.texts.specs.declared.pieces.Separators.TheVariants.{Byte}

-- ---- one column

words_of-append : (above below : List Line) → word_count (above ++ below) ≡ word_count above + word_count below
words_of-append [] below = omega arith
words_of-append (line ∷ above) below = let rest = words_of-append above below in omega (arith, rest)

-- a column's words are no fewer with more cells
words_grow : (above : Column) (texts : List (List ℕ)) (all : Column) → all_drafted above texts ≡ Ok all → word_count above ≤ word_count all
words_grow above texts all e = grind (arith, all_found above texts all e, words_of-append above)

cell_found : (column : Column) (cell : List ℕ) (more : Column) → cell_added column cell ≡ Ok more → drafted column cell ≡ Ok more
unfolding cell_added
cell_found column cell more e = grind (arith, bind_ok, as_instr-ok, cases_Bool, ok_is)

cell_only : (column : Column) (cell : List ℕ) (more : Column) → drafted column cell ≡ Ok more → word_count more ≤ 4096 → cell_added column cell ≡ Ok more
unfolding cell_added
cell_only column cell more e few = rw (e, le-ltb 4096 (word_count more) few) refl

-- ---- all columns

-- each column with its cells of these rows, the first with those of this hart
abbrev AreEnds : List Cells → ℕ → List Column → List Column → Type 0
AreEnds rows hart [] ends = ends ≡ []
AreEnds rows hart (column ∷ columns) ends = (end : Column) × (others : List Column) × (ends ≡ end ∷ others)
    × (all_drafted column (column_of hart rows) ≡ Ok end) × AreEnds rows (hart + 1) columns others

abbrev AreFew : List Column → Type 0
AreFew ends = AllByRecursion (λ end. word_count end ≤ 4096) ends

-- the cells from a hart's on
abbrev AreFrom : ℕ → Cells → Cells → Type 0
AreFrom hart cells here = (i j : ℕ) → j ≡ hart + i → slice_index_or cells j [] ≡ slice_index_or here i []

from_start : (cells : Cells) → AreFrom 0 cells cells
from_start cells i j at = let same : j ≡ i = omega arith in rw same refl

ends_none : (hart : ℕ) (columns : List Column) → AreEnds [] hart columns columns
ends_none hart [] = refl
ends_none hart (column ∷ columns) = (column, columns, refl, refl, ends_none (hart + 1) columns)

ends_count : (rows : List Cells) (hart : ℕ) (columns ends : List Column) → AreEnds rows hart columns ends → length ends ≡ length columns
ends_count rows hart [] ends are = ap length are
ends_count rows hart (column ∷ columns) ends are = ap length are.2 ∙ ap suc (ends_count rows (hart + 1) columns are.1 are.4)

-- a row more at the top
ends_more : (rows : List Cells) (cells : Cells) (hart : ℕ) (columns : List Column) (here : Cells)
    (more ends : List Column) → AreFrom hart cells here → length here ≡ length columns
    → cells_added columns here ≡ Ok more → AreEnds rows hart more ends → AreEnds (cells ∷ rows) hart columns ends
ends_more rows cells hart [] here more ends at count e are = subst (λ (m : List Column). AreEnds rows hart m ends) (sym (ok_is LitmusFault [] more e)) are
ends_more rows cells hart (column ∷ columns) [] more ends at count e are = absurd (omega (arith, count))
ends_more rows cells hart (column ∷ columns) (cell ∷ here) more ends at count e are =
    let step = bind_ok (cell_added column cell) (λ (m : Column). cells_added columns here >>= λ (others : List Column). Ok (m ∷ others)) more e in
    let rest = bind_ok (cells_added columns here) (λ (others : List Column). Ok (step.0 ∷ others)) more step.2 in
    let below = subst (λ (m : List Column). AreEnds rows hart m ends) (sym (ok_is LitmusFault (step.0 ∷ rest.0) more rest.2)) are in (
      below.0,
      below.1,
      below.2,
      rw (at 0 hart (omega arith), cell_found column cell step.0 step.1) below.3,
      ends_more rows cells (hart + 1) columns here rest.0 below.1 (λ i j e. at (suc i) j (omega (arith, e))) (omega (arith, count)) rest.1 below.4,
    )

cells_found : (rows : List Cells) (cells : Cells) (columns more ends : List Column) → length cells ≡ length columns
    → cells_added columns cells ≡ Ok more → AreEnds rows 0 more ends → AreEnds (cells ∷ rows) 0 columns ends
cells_found rows cells columns more ends count e are = ends_more rows cells 0 columns cells more ends (from_start cells) count e are

cells_count : (columns : List Column) (cells : Cells) (more : List Column) → length cells ≡ length columns
    → cells_added columns cells ≡ Ok more → length more ≡ length columns
cells_count columns cells more count e = ends_count (cells ∷ []) 0 columns more (cells_found [] cells columns more more count e (ends_none 0 more))

-- the columns with their first cells
record Fronts (rows : List Cells) (hart : ℕ) (columns : List Column) (here : Cells) (ends : List Column) : Type 0 where
  more : List Column
  shown : cells_added columns here ≡ Ok more
  count : length more ≡ length columns
  below : AreEnds rows hart more ends

fronts : (rows : List Cells) (cells : Cells) (hart : ℕ) (columns : List Column) (here : Cells) (ends : List Column)
    → AreFrom hart cells here → length here ≡ length columns → AreEnds (cells ∷ rows) hart columns ends → AreFew ends
    → Fronts rows hart columns here ends
fronts rows cells hart [] here ends at count are few = record { more = []; shown = refl; count = refl; below = are }
fronts rows cells hart (column ∷ columns) [] ends at count are few = absurd (omega (arith, count))
fronts rows cells hart (column ∷ columns) (cell ∷ here) ends at count are few =
    let fewer = subst AreFew are.2 few in
    let all : all_drafted column (cell ∷ column_of hart rows) ≡ Ok are.0 = rw (← (at 0 hart (omega arith))) are.3 in
    let step = bind_ok (drafted column cell) (λ (m : Column). all_drafted m (column_of hart rows)) are.0 all in
    let grow = words_grow step.0 (column_of hart rows) are.0 step.2 in
    let rest = fronts rows cells (hart + 1) columns here are.1 (λ i j e. at (suc i) j (omega (arith, e))) (omega (arith, count)) are.4 fewer.1 in
    record {
      more = step.0 ∷ rest.more;
      shown = rw (cell_only column cell step.0 step.1 (omega (arith, grow, fewer.0)), rest.shown) refl;
      count = ap suc rest.count;
      below = (are.0, are.1, are.2, step.2, rest.below);
    }

-- ---- instructions

-- each column of the rows is this code, the first of them this hart's
abbrev pub AreCodes : List Cells → ℕ → List Code → Type 0
AreCodes rows hart [] = Unit {0}
AreCodes rows hart (code ∷ codes) = IsColumnCode (column_of hart rows) code × AreCodes rows (hart + 1) codes

code_found : (cells : List (List ℕ)) (end : Column) (code : Code) → all_drafted [] cells ≡ Ok end → all_instructions end ≡ Ok code → IsColumnCode cells code
code_found cells end code e done = grind (arith, all_found [] cells end e, finished-found end code done)

codes_found : (rows : List Cells) (hart harts : ℕ) (ends : List Column) (codes : List Code)
    → AreEnds rows hart (replicate harts []) ends → codes_of ends ≡ Ok codes
    → AreCodes rows hart codes × (length codes ≡ harts)
codes_found rows hart zero ends codes are e = grind (arith, ok_is)
codes_found rows hart (suc harts) ends codes are e =
    let all : codes_of (are.0 ∷ are.1) ≡ Ok codes = ap codes_of (sym are.2) ∙ e in
    let step = bind_ok (as_instr (all_instructions are.0)) (λ (code : Code). codes_of are.1 >>= λ (others : List Code). Ok (code ∷ others)) codes all in
    let rest = bind_ok (codes_of are.1) (λ (others : List Code). Ok (step.0 ∷ others)) codes step.2 in
    let below = codes_found rows (hart + 1) harts are.1 rest.0 are.4 rest.1 in
    subst (λ (cs : List Code). AreCodes rows hart cs × (length cs ≡ suc harts)) (ok_is LitmusFault (step.0 ∷ rest.0) codes rest.2)
    ((code_found (column_of hart rows) are.0 step.0 are.3 (as_instr-ok (all_instructions are.0) step.0 step.1), below.0), ap suc below.1)

record Ends (rows : List Cells) (hart : ℕ) (codes : List Code) : Type 0 where
  ends : List Column
  are : AreEnds rows hart (replicate (length codes) []) ends
  few : AreFew ends
  shown : codes_of ends ≡ Ok codes

codes_only : (rows : List Cells) (hart : ℕ) (codes : List Code) → AreCodes rows hart codes → Ends rows hart codes
codes_only rows hart [] are = record { ends = []; are = refl; few = tt; shown = refl }
codes_only rows hart (code ∷ codes) are =
    let rest = codes_only rows (hart + 1) codes are.1 in
    let is = are.0 in
    record {
      ends = is.0 ∷ rest.ends;
      are = (is.0, rest.ends, refl, all_only [] (column_of hart rows) is.0 is.2 is.3.once (none_above is.0), rest.are);
      few = (is.3.few, rest.few);
      shown = rw (finished_only is.0 is.1 is.3, rest.shown) (ap (λ (c : Code). Ok (c ∷ codes)) (sym is.4));
    }

-- ---- the rows below the first

record IsLineOf (columns : List Column) (line : List ℕ) (more : List Column) : Type 0 where
  cells : Cells
  is : IsRow line cells
  count : length cells ≡ length columns
  shown : cells_added columns cells ≡ Ok more

line-found : (columns : List Column) (line : List ℕ) (more : List Column) → line_added columns line ≡ Ok more
    → (AreBlanks line × (columns ≡ more)) ⊎ IsLineOf columns line more
unfolding line_added
line-found columns line more e = grind (arith, cases_Bool, blank_found, ok_is, row_found, eqb-true)

line-only : (columns : List Column) (line : List ℕ) (cells : Cells) → IsRow line cells
    → length cells ≡ length columns → line_added columns line ≡ cells_added columns cells
unfolding line_added
line-only columns line cells is count = grind (arith, row_only line cells is, eq-eqb (length cells) (length columns) count)

line-blank : (columns : List Column) (line : List ℕ) → AreBlanks line → line_added columns line ≡ Ok columns
unfolding line_added
line-blank columns line are = rw (blank_only line are) refl

record Rows (columns : List Column) (lines : List (List ℕ)) (ends : List Column) : Type 0 where
  rows : List Cells
  are : AreRows (length columns) lines rows
  ended : AreEnds rows 0 columns ends

lines_found : (columns : List Column) (lines : List (List ℕ)) (ends : List Column) → lines_added columns lines ≡ Ok ends → Rows columns lines ends
lines_found columns [] ends e = record {
  rows = [];
  are = none;
  ended =
      subst (λ (es : List Column). AreEnds [] 0 columns es) (ok_is LitmusFault columns ends e) (ends_none 0 columns);
}
lines_found columns (line ∷ lines) ends e =
    let step = bind_ok (line_added columns line) (λ (more : List Column). lines_added more lines) ends e in
    let rest = lines_found step.0 lines ends step.2 in
    elim (line-found columns line step.0 step.1) [
      | inl empty ↦ record {
        rows = rest.rows;
        are = blank line lines rest.rows empty.0 (subst (λ (cs : List Column). AreRows (length cs) lines rest.rows) (sym empty.1) rest.are);
        ended = subst (λ (cs : List Column). AreEnds rest.rows 0 cs ends) (sym empty.1) rest.ended;
      }
      | inr first ↦ record {
        rows = first.cells ∷ rest.rows;
        are =
            row line lines first.cells rest.rows first.is first.count (subst (λ (n : ℕ). AreRows n lines rest.rows)
            (cells_count columns first.cells step.0 first.count first.shown) rest.are);
        ended = cells_found rest.rows first.cells columns step.0 ends first.count first.shown rest.ended;
      }
    ]

ends_of_none : (hart : ℕ) (columns ends : List Column) → AreEnds [] hart columns ends → columns ≡ ends
ends_of_none hart [] ends are = sym are
ends_of_none hart (column ∷ columns) ends are = rw (are.2, ok_is Refusal column are.0 are.3, ends_of_none (hart + 1) columns are.1 are.4) refl

lines_only : (harts : ℕ) (columns : List Column) (lines : List (List ℕ)) (rows : List Cells) (ends : List Column)
    → length columns ≡ harts → AreRows harts lines rows → AreEnds rows 0 columns ends → AreFew ends
    → lines_added columns lines ≡ Ok ends
lines_only harts columns lines rows ends count none are few = ap Ok (ends_of_none 0 columns ends are)
lines_only harts columns lines rows ends count (blank line below others empty written) are few =
    rw (line-blank columns line empty) (lines_only harts columns below others ends count written are few)
lines_only harts columns lines rows ends count (row line below cells others is full written) are few =
    let same : length cells ≡ length columns = full ∙ sym count in
    let front = fronts others cells 0 columns cells ends (from_start cells) same are few in
    rw (line-only columns line cells is same, front.shown) (lines_only harts front.more below others ends (front.count ∙ count) written front.below few)

-- ---- the table

-- where nothing follows the first row, nothing is read
below_same : (columns : List Column) (o : Option (List ℕ))
    → lines_added columns (pieces (Byte 10) (unwrap_or o [])) ≡ lines_added columns (pieces_after (Byte 10) o)
unfolding line_added
below_same columns o = grind arith

pub table_found : (table : List ℕ) (columns : List Column) (codes : List Code) → table_at table ≡ Ok columns
    → codes_of columns ≡ Ok codes → (rows : List Cells) × IsTable table (length codes) rows × AreCodes rows 0 codes
unfolding table_at
table_found table columns codes e done = go (from_line mark.Visible table) refl e
  where
    go : (o : Option (List ℕ)) → from_line mark.Visible table ≡ o → table_from o ≡ Ok columns
        → (rows : List Cells) × IsTable table (length codes) rows × AreCodes rows 0 codes
    go None nowhere f = absurd cc
    go (Some from) at f =
        let below = unwrap_or (after (is_byte 10) from) [] in
        let step = bind_ok (harts_in (before (is_byte 10) from))
        (λ (harts : ℕ). lines_added (replicate harts []) (pieces_after (Byte 10) (after (is_byte 10) from))) columns
        f in
        let first = first_row_found (before (is_byte 10) from) step.0 step.1 in
        let lines = lines_found (replicate step.0 []) (pieces (Byte 10) below) columns (below_same (replicate step.0 []) (after (is_byte 10) from) ∙ step.2) in
        let coded = codes_found lines.rows 0 step.0 columns codes lines.ended done in (
          lines.rows,
          record {
            blank_lines = before_line mark.Visible table;
            from = from;
            first = before (is_byte 10) from;
            below = below;
            names = first.names;
            begins = line_found mark.Visible IsVisible visible_matches table (Some from) at;
            cut = cut_found from;
            row = first.row;
            named = first.named;
            counted = first.counted ∙ sym coded.1;
            few = subst (λ (n : ℕ). n ≤ 64) (sym coded.1) first.few;
            written = subst (λ (n : ℕ). AreRows n (pieces (Byte 10) below) lines.rows) (length-replicate step.0 [] ∙ sym coded.1) lines.are;
          },
          coded.0,
        )

pub table_only : (table : List ℕ) (rows : List Cells) (codes : List Code) → IsTable table (length codes) rows
    → AreCodes rows 0 codes → (columns : List Column) × (table_at table ≡ Ok columns) × (codes_of columns ≡ Ok codes)
unfolding table_at
table_only table rows codes is are =
    let coded = codes_only rows 0 codes are in
    let begun = line_only mark.Visible IsVisible visible_matches is.begins in
    let cut = cut_only is.from is.first is.below is.cut in
    let first = first_row_only is.first (length codes) (record { names = is.names; row = is.row; named = is.named; counted = is.counted; few = is.few }) in
    let lines = lines_only (length codes) (replicate (length codes) []) (pieces (Byte 10) is.below) rows coded.ends
    (length-replicate (length codes) []) is.written coded.are coded.few in
    let below = sym (below_same (replicate (length codes) []) (after (is_byte 10) is.from)) ∙ rw cut.1 lines in
    (coded.ends, rw (begun.1, cut.0, first) below, coded.shown)
