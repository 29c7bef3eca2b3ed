use Rattle.std.proofs.Common.{◌≡◌, ◌++◌, map}
use Rattle.std.specs.Option.{option_copied}
use Rattle.texts.specs.Pieces.{bytes_left, pieces_after}
use Rattle.texts.specs.declared.pieces.Separators.TheVariants.{Byte}
use Rattle.litmus_reader.specs.{cell_of, cells_of}
use Rattle.litmus_reader.proofs.listings.listed_cells.Given as goal

abbrev pub invariant-loop-rest : goal.invariant-loop-rest
invariant-loop-rest l = l.cells.items ++ map cell_of (pieces_after (Byte 124) (option_copied l.rest)) ≡ map cell_of (cells_of l.row)

abbrev pub decreases-loop-rest : goal.decreases-loop-rest
decreases-loop-rest l = bytes_left (option_copied l.rest)
