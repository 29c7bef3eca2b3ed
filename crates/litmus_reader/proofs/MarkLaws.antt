-- Where the next line begins.
use Rattle.std.proofs.Common.{◌≡◌, ℕ, ◌+◌, ◌<◌, ◌≤◌, true, false, List, [], ◌∷◌, length, take, drop, Some, None, refl, sym, ap, subst, ◌∙◌, append_assoc, arith}
use Rattle.std.proofs.Common.{zero, suc, ◌-◌}
use Rattle.std.proofs.Math.Seq.{take-add}
use Rattle.std.proofs.lemmas.List.{append-nil, drop-drop, length-drop, take-append-drop}
use Rattle.std.specs.Prelude.{position}
use Rattle.std.specs.List.{position_or_len}
use Rattle.std.proofs.lemmas.Bool.{cases_Bool}
use Rattle.texts.proofs.PieceLaws.{position_is, position_past, span-slice_split}
use Rattle.litmus_reader.specs.{Mark, is_line_feed, begins, Cut, onto_front, next_cut, line_cut, indent, is_blank_line, left_from}
use Rattle.texts.specs.{span, pieces, is_byte}
use Rattle.texts.specs.declared.pieces.Separators.TheVariants.{Byte}

pub begun_cut : (mark : Mark) (xs : List ℕ) → begins mark xs ≡ true → line_cut mark xs ≡ ([], Some xs)
unfolding line_cut
begun_cut mark xs e = rw e refl

pub other_cut : (mark : Mark) (xs : List ℕ) → begins mark xs ≡ false → line_cut mark xs ≡ next_cut mark xs
unfolding line_cut
other_cut mark xs e = rw e refl

next_is : (mark : Mark) (xs : List ℕ) → position_or_len is_line_feed xs < length xs
    → next_cut mark xs ≡ onto_front (take (position_or_len is_line_feed xs + 1) xs) (line_cut mark (drop (position_or_len is_line_feed xs + 1) xs))
unfolding line_cut
next_is mark [] less = absurd (omega arith)
next_is mark (x ∷ xs) less = grind (arith, cases_Bool, next_is mark xs)

next_whole : (mark : Mark) (xs : List ℕ) → length xs ≤ position_or_len is_line_feed xs → next_cut mark xs ≡ (xs, None)
next_whole mark [] no_line = refl
next_whole mark (x ∷ xs) no_line = grind (arith, cases_Bool, next_whole mark xs)

-- ---- the walk over the lines of a text, of which this number of bytes is passed

pub found_cut : (mark : Mark) (xs : List ℕ) (whole : Cut) (at : ℕ) → begins mark (drop at xs) ≡ true
    → onto_front (take at xs) (line_cut mark (drop at xs)) ≡ whole → (take at xs, Some (drop at xs)) ≡ whole
found_cut mark xs whole at here so_far = ap (λ (front : List ℕ). (front, Some (drop at xs))) (sym (append-nil (take at xs)))
    ∙ ap (onto_front (take at xs)) (sym (begun_cut mark (drop at xs) here)) ∙ so_far

pub turn_within : (xs : List ℕ) (at i : ℕ) → at ≤ length xs → position is_line_feed (drop at xs) ≡ Some i → at + (i + 1) ≤ length xs
turn_within xs at i within ends = let place = position_is is_line_feed (drop at xs) i ends in omega (arith, length-drop at xs)

-- a line that begins otherwise stands before, with its end
turn_next : (mark : Mark) (xs : List ℕ) (i : ℕ) → begins mark xs ≡ false → position is_line_feed xs ≡ Some i
    → line_cut mark xs ≡ onto_front (take (i + 1) xs) (line_cut mark (drop (i + 1) xs))
turn_next mark xs i other ends = let at = position_is is_line_feed xs i ends in
    subst (λ (k : ℕ). line_cut mark xs ≡ onto_front (take (k + 1) xs) (line_cut mark (drop (k + 1) xs))) at.1
    (other_cut mark xs other ∙ next_is mark xs at.0)

pub turn_cut : (mark : Mark) (xs : List ℕ) (whole : Cut) (at i : ℕ) → begins mark (drop at xs) ≡ false
    → position is_line_feed (drop at xs) ≡ Some i → onto_front (take at xs) (line_cut mark (drop at xs)) ≡ whole
    → onto_front (take (at + (i + 1)) xs) (line_cut mark (drop (at + (i + 1)) xs)) ≡ whole
turn_cut mark xs whole at i other ends so_far =
    let rest = line_cut mark (drop (i + 1) (drop at xs)) in
    rw (take-add at (i + 1) xs, ← (drop-drop (i + 1) at xs))
    (ap (λ (front : List ℕ). (front, rest.1)) (append_assoc (take at xs) (take (i + 1) (drop at xs)) rest.0)
    ∙ ap (onto_front (take at xs)) (sym (turn_next mark (drop at xs) i other ends)) ∙ so_far)

-- and so does the last line
pub end_cut : (mark : Mark) (xs : List ℕ) (whole : Cut) (at : ℕ) → begins mark (drop at xs) ≡ false
    → position is_line_feed (drop at xs) ≡ None → onto_front (take at xs) (line_cut mark (drop at xs)) ≡ whole → (xs, None) ≡ whole
end_cut mark xs whole at other ends so_far =
    let last = other_cut mark (drop at xs) other ∙ next_whole mark (drop at xs) (position_past is_line_feed (drop at xs) ends) in
    ap (λ (front : List ℕ). (front, None)) (sym (take-append-drop at xs)) ∙ ap (onto_front (take at xs)) (sym last) ∙ so_far

-- ---- the lines and rows at which faults are reported

-- the last line that isn't empty, where this number of lines was seen, the last such among them was this one,
-- and the others have one there
abbrev pub reached : (seen last others : ℕ) → ℕ
reached seen last zero = last
reached seen last (suc line) = seen + suc line

-- the whole text is left at its first row, except that row's indent
pub row_here : (text line : List ℕ) (below : List (List ℕ)) → pieces (Byte 10) text ≡ line ∷ below
    → is_blank_line line ≡ false → left_from 0 (line ∷ below) ≡ length text - indent line
row_here text line below cut solid =
    let whole : span (line ∷ below) - 1 ≡ length text =
    ap (λ (lines : List (List ℕ)). span lines - 1) (sym cut) ∙ rw (span-slice_split (is_byte 10) text) (omega arith) in
    rw solid (ap (λ (n : ℕ). n - indent line) whole)
