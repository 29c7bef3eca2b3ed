use Rattle.std.proofs.Common.{◌≡◌}
use Rattle.std.specs.Option.{option_copied}
use Rattle.texts.specs.Pieces.{bytes_left, pieces, pieces_after}
use Rattle.litmus_reader.specs.Lines.{left_from}
use Rattle.litmus_reader.proofs.table.left_at_row.Given as goal
use Rattle.texts.specs.declared.pieces.Separators.TheVariants.{Byte}

abbrev pub invariant-loop-rest : goal.invariant-loop-rest
invariant-loop-rest l = left_from l.rows (pieces_after (Byte 10) (option_copied l.rest)) ≡ left_from l.row (pieces (Byte 10) l.text)

abbrev pub decreases-loop-rest : goal.decreases-loop-rest
decreases-loop-rest l = bytes_left (option_copied l.rest)
