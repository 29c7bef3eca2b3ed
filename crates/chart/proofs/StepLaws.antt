-- What one more entry, row, pending store, line, mark, stroke or column makes.
use Rattle.std.proofs.Common.{◌≡◌, ℕ, suc, ◌+◌, List, [], ◌∷◌, ◌++◌, refl, arith, ◌*◌, ◌<◌, ◌^◌, length, take, get_or, map, ap, append_assoc, append-nil, max}
use Rattle.std.proofs.Common.{◌∙◌, false, ◌==◌, if◌then◌else◌}
use Rattle.chart.specs.declared.places.Places.{Places}
use Rattle.chart.specs.{Form, LanedOf, SceneOf, row_label, kept_at, widest_label, widest_kept, lanes_at, used_after, drawn_at, first_row_lines, head_mark}
use Rattle.chart.specs.{head_marks, RowWrite, pending_by_row, AboutOf, pending_text, first_pending, pending_of_hart, pending_lines, bare_hints, hints_of}
use Rattle.chart.specs.{Stroke, MarkOf, LineOf, sign_byte, strikes, struck, byte_of_mark, mark_byte, line_cell, text_end, first_cells, RowOf, row_after}
use Rattle.chart.specs.{rows_after, rows_of}
use Rattle.std.proofs.Math.Nat.{mul-le-mul}
use Rattle.std.proofs.lemmas.List.{take_more}
use Rattle.step_machine.specs.declared.events.Entry.{Entry}
use Rattle.std.specs.Prelude.{codes, unwrap_or}
use Rattle.std.specs.List.{slice_get}

pub lines_more : (form : Form) (scene : SceneOf) (p : Places) (lanes : List LanedOf) (n : ℕ) →
    first_row_lines form scene p lanes (n + 1) ≡ first_row_lines form scene p lanes n ++ drawn_at form scene p lanes n
lines_more form scene p lanes n = let more : n + 1 ≡ suc n = omega arith in rw more refl

pub heads_more : (p : Places) (n : ℕ) → head_marks p (n + 1) ≡ head_marks p n ++ head_mark p n ∷ []
heads_more p n = let more : n + 1 ≡ suc n = omega arith in rw more refl

-- ---- how wide columns are together

pub product_most : (a b : ℕ) → a < 2 ^ 8 → b < 2 ^ 16 → a * b < 2 ^ 24
product_most a b x y = grind (arith, mul-le-mul)

-- ---- the rows of one more entry

rows_after-last : (before es : List Entry) (e : Entry) → rows_after before (es ++ e ∷ []) ≡ rows_after before es ++ row_after (before ++ es) e ∷ []
rows_after-last before [] e = rw (append-nil before) refl
rows_after-last before (x ∷ es) e = grind (arith, append_assoc, rows_after-last (before ++ x ∷ []) es e)

pub rows_next : (i : ℕ) (es : List Entry) (d : Entry) → i < length es
    → rows_of (take (i + 1) es) ≡ rows_of (take i es) ++ row_after (take i es) (get_or es i d) ∷ []
rows_next i es d within = rw (take_more es i d within) (rows_after-last [] (take i es) (get_or es i d))

entries_after : (before es : List Entry) → map (λ (r : RowOf). r.entry) (rows_after before es) ≡ es
entries_after before [] = refl
entries_after before (e ∷ es) = ap (λ (fs : List Entry). e ∷ fs) (entries_after (before ++ e ∷ []) es)

pub entries_of_rows : (es : List Entry) → map (λ (r : RowOf). r.entry) (rows_of es) ≡ es
entries_of_rows es = entries_after [] es

-- ---- one more row and one more line

pub label_more : (form : Form) (scene : SceneOf) (n : ℕ) →
    widest_label form scene (n + 1) ≡ max (widest_label form scene n) (length (row_label form scene n))
label_more form scene n = let more : n + 1 ≡ suc n = omega arith in rw more refl

pub kept_more : (form : Form) (scene : SceneOf) (n : ℕ) →
    widest_kept form scene (n + 1) ≡ max (widest_kept form scene n) (length (kept_at form scene n))
kept_more form scene n = let more : n + 1 ≡ suc n = omega arith in rw more refl

used_after-last : (used : ℕ) (ls : List LanedOf) (l : LanedOf) → used_after used (ls ++ l ∷ []) ≡ max (used_after used ls) (lanes_at l)
used_after-last used [] l = refl
used_after-last used (x ∷ ls) l = used_after-last (max used (lanes_at x)) ls l

pub used_next : (least i : ℕ) (ls : List LanedOf) (d : LanedOf) → i < length ls →
    used_after least (take (i + 1) ls) ≡ max (used_after least (take i ls)) (lanes_at (get_or ls i d))
used_next least i ls d within = rw (take_more ls i d within) (used_after-last least (take i ls) (get_or ls i d))

-- ---- one more pending store, the pending stores of one more hart, and what a form leaves out

pub first_more : (about : AboutOf) (h : ℕ) (ws : List RowWrite) (n : ℕ) →
    first_pending about h ws (n + 1) ≡ first_pending about h ws n ++ pending_text about h (slice_get ws n) ∷ []
first_more about h ws n = let more : n + 1 ≡ suc n = omega arith in rw more refl

pub pending_more : (about : AboutOf) (es : List Entry) (n : ℕ) →
    pending_lines about es (n + 1) ≡ pending_lines about es n ++ pending_of_hart about n (pending_by_row n es)
pending_more about es n = let more : n + 1 ≡ suc n = omega arith in rw more refl

pub hints_more : (form : Form) (scene : SceneOf) (old between new : List (List ℕ)) → form.instructions ≡ false
    → between ≡ old ++ codes "left out: the instructions, since columns would be too wide" ∷ [] → new ≡ between ++ bare_hints scene
    → new ≡ old ++ hints_of form scene
hints_more form scene old between new none first second =
    rw none
    (second ∙ ap (λ (lines : List (List ℕ)). lines ++ bare_hints scene) first
    ∙ append_assoc old (codes "left out: the instructions, since columns would be too wide" ∷ []) (bare_hints scene))

-- ---- one more stroke, one more mark and one more cell

struck-last : (cell found : ℕ) (ss : List Stroke) (s : Stroke) →
    struck cell found (ss ++ s ∷ []) ≡ (if strikes s cell then sign_byte s.sign else struck cell found ss)
struck-last cell found [] s = refl
struck-last cell found (x ∷ ss) s = struck-last cell (if strikes x cell then sign_byte x.sign else found) ss s

pub struck_next : (cell i : ℕ) (ss : List Stroke) (d : Stroke) → i < length ss →
    struck cell 32 (take (i + 1) ss) ≡ (if strikes (get_or ss i d) cell then sign_byte (get_or ss i d).sign else struck cell 32 (take i ss))
struck_next cell i ss d within = rw (take_more ss i d within) (struck-last cell 32 (take i ss) (get_or ss i d))

marked-last : (cell found : ℕ) (ms : List MarkOf) (m : MarkOf) →
    mark_byte cell found (ms ++ m ∷ []) ≡ unwrap_or (byte_of_mark m cell) (mark_byte cell found ms)
marked-last cell found [] m = refl
marked-last cell found (x ∷ ms) m = marked-last cell (unwrap_or (byte_of_mark x cell) found) ms m

pub marked_next : (cell found i : ℕ) (ms : List MarkOf) (d : MarkOf) → i < length ms →
    mark_byte cell found (take (i + 1) ms) ≡ unwrap_or (byte_of_mark (get_or ms i d) cell) (mark_byte cell found (take i ms))
marked_next cell found i ms d within = rw (take_more ms i d within) (marked-last cell found (take i ms) (get_or ms i d))

pub end_more : (line : LineOf) (n : ℕ) → text_end line (n + 1) ≡ (if line_cell line n == 32 then text_end line n else n + 1)
end_more line n = let more : n + 1 ≡ suc n = omega arith in rw more refl

pub cells_more : (line : LineOf) (n : ℕ) → first_cells line (n + 1) ≡ first_cells line n ++ line_cell line n ∷ []
cells_more line n = let more : n + 1 ≡ suc n = omega arith in rw more refl
