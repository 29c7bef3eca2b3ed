-- The sets of accesses that a fence orders.
use Rattle.std.specs.Prelude.{ℕ, List, [], ◌∷◌, codes, Option}
use Rattle.rv_decode.specs.Registers.{row_of}

-- input, output, reads and writes from bit 3 down, and 0 for none of them
abbrev pub set_names : List (List ℕ × ℕ)
set_names =
    (codes "0", 0) ∷
    (codes "w", 1) ∷
    (codes "r", 2) ∷
    (codes "rw", 3) ∷
    (codes "o", 4) ∷
    (codes "ow", 5) ∷
    (codes "or", 6) ∷
    (codes "orw", 7) ∷
    (codes "i", 8) ∷
    (codes "iw", 9) ∷
    (codes "ir", 10) ∷
    (codes "irw", 11) ∷
    (codes "io", 12) ∷
    (codes "iow", 13) ∷
    (codes "ior", 14) ∷
    (codes "iorw", 15) ∷
    []

unfoldable pub set_named : List ℕ → Option ℕ
set_named text = row_of (λ row. row.0) (λ row. row.1) set_names text
