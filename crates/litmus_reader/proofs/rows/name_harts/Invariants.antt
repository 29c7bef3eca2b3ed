use Rattle.std.proofs.Common.{◌≡◌, ◌+◌, length}
use Rattle.std.specs.Option.{option_copied}
use Rattle.texts.specs.Pieces.{bytes_left, pieces_after}
use Rattle.litmus_reader.specs.Rows.{cells_of, name_harts}
use Rattle.litmus_reader.proofs.rows.name_harts.Given as goal
use Rattle.texts.specs.declared.pieces.Separators.TheVariants.{Byte}

abbrev pub invariant-loop-rest : goal.invariant-loop-rest
invariant-loop-rest l = record {
  count : l.hart + length (pieces_after (Byte 124) (option_copied l.rest)) ≡ length (cells_of l.row);
  so_far : name_harts l.hart (pieces_after (Byte 124) (option_copied l.rest)) ≡ name_harts 0 (cells_of l.row);
}

abbrev pub decreases-loop-rest : goal.decreases-loop-rest
decreases-loop-rest l = bytes_left (option_copied l.rest)
