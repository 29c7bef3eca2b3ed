-- A table's rows are those of the grammar.
use Rattle.std.proofs.Common.{◌≡◌, ℕ, ◌+◌, ◌≤◌, true, false, ltb, List, [], ◌∷◌, ◌++◌, length, Option, Some, None, Ok, refl, subst, inl, inr, arith}
use Rattle.std.specs.Fmt.{decimal}
use Rattle.std.proofs.lemmas.Bool.{cases_Bool, eqb-true, le-ltb, ltb-false, false_from_ne_true}
use Rattle.std.specs.Bool.{Decides}
use Rattle.std.proofs.lemmas.Bool.Decides.{Decides-and}
use Rattle.std.proofs.lemmas.Slice.Eq.{bytes_eq-Decides}
use Rattle.texts.specs.{is_blank, before, after, is_byte, trimmed, AreBlanks}
use Rattle.texts.proofs.{ok_is, some_is, bind_ok, guard_ok, before-stop, after-stop, cut_byte, before-passes_not}
use Rattle.litmus_reader.specs.{is_blank_line, ended_by, row_in, cells_of, name_harts, harts_within, all_named, harts_in, Cells, IsRow, AreNames}

-- ---- lines

pub blank_found : (line : List ℕ) → is_blank_line line ≡ true → AreBlanks line
blank_found [] e = tt
blank_found (c ∷ line) e = grind (arith, cases_Bool, eqb-true, blank_found line)

pub blank_only : (line : List ℕ) → AreBlanks line → is_blank_line line ≡ true
blank_only [] are = refl
blank_only (c ∷ line) are = rw are.0 (blank_only line are.1)

-- a byte among blanks is one
among_blanks : (front : List ℕ) (c : ℕ) (rest : List ℕ) → AreBlanks (front ++ c ∷ rest) → is_blank c ≡ true
among_blanks [] c rest are = are.0
among_blanks (b ∷ front) c rest are = among_blanks front c rest are.1

pub row_found : (line row : List ℕ) → row_in line ≡ Some row → IsRow line (cells_of row)
unfolding row_in
row_found line row e = go (after (is_byte 59) line) refl e
  where
    go : (o : Option (List ℕ)) → after (is_byte 59) line ≡ o → ended_by (before (is_byte 59) line) o ≡ Some row → IsRow line (cells_of row)
    go None none f = absurd cc
    go (Some rest) cut f = elim (cases_Bool (is_blank_line rest)) [
      | inl blank ↦ subst (λ (r : List ℕ). IsRow line (cells_of r)) (some_is (before (is_byte 59) line) row (rw blank at f))
          (before (is_byte 59) line, rest, before-passes_not (is_byte 59) line, blank_found rest blank, cut_byte 59 line rest cut, refl)
      | inr other ↦ absurd (let g = rw other at f in cc)
    ]

pub record RowRead (line : List ℕ) (cells : Cells) : Type 0 where
  pub row : List ℕ
  pub solid : is_blank_line line ≡ false
  pub read : row_in line ≡ Some row
  pub parted : cells_of row ≡ cells

pub row_only : (line : List ℕ) (cells : Cells) → IsRow line cells → RowRead line cells
unfolding row_in
row_only line cells is = grind (arith, false_from_ne_true, among_blanks, blank_found, before-stop, after-stop, blank_only)

-- ---- the first row

names_decide : (hart : ℕ) (cells : Cells) → Decides (name_harts hart cells) (AreNames hart cells)
names_decide hart [] = (λ e. tt, λ are. refl)
names_decide hart (cell ∷ cells) = Decides-and _ _ (bytes_eq-Decides (trimmed cell) (80 ∷ decimal hart)) (names_decide (hart + 1) cells)

pub record FirstRow (line : List ℕ) (harts : ℕ) : Type 0 where
  pub names : Cells
  pub row : IsRow line names
  pub named : AreNames 0 names
  pub counted : length names ≡ harts
  pub few : harts ≤ 64

named-found : (cells : Cells) (harts : ℕ) → all_named cells ≡ Ok harts → AreNames 0 cells × (length cells ≡ harts)
named-found cells harts e = grind (arith, cases_Bool, names_decide 0 cells, ok_is)

few_found : (all harts : ℕ) → harts_within all ≡ Ok harts → (all ≡ harts) × (harts ≤ 64)
few_found all harts e = grind (arith, guard_ok, ltb, ltb-false)

pub first_row_found : (line : List ℕ) (harts : ℕ) → harts_in line ≡ Ok harts → FirstRow line harts
unfolding harts_in
first_row_found line harts e = grind (arith, bind_ok, few_found, named-found, row_found)

pub first_row_only : (line : List ℕ) (harts : ℕ) → FirstRow line harts → harts_in line ≡ Ok harts
unfolding harts_in
first_row_only line harts first = grind (arith, row_only line first.names first.row, names_decide 0 first.names, le-ltb 64 harts first.few)
