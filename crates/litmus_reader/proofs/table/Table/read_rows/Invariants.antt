use Rattle.std.proofs.Common.{◌≡◌, length}
use Rattle.std.specs.Option.{option_copied}
use Rattle.texts.specs.Pieces.{bytes_left, pieces_after}
use Rattle.litmus_reader.specs.Table.{lines_added}
use Rattle.litmus_reader.proofs.table.Table.read_rows.Given as goal
use Rattle.texts.specs.declared.pieces.Separators.TheVariants.{Byte}

abbrev pub invariant-loop-rest : goal.invariant-loop-rest
invariant-loop-rest l = record {
  same : length l.self ≡ length l.fn.self;
  so_far : lines_added l.self (pieces_after (Byte 10) (option_copied l.rest)) ≡ lines_added l.fn.self (pieces_after (Byte 10) (option_copied l.rows));
}

abbrev pub decreases-loop-rest : goal.decreases-loop-rest
decreases-loop-rest l = bytes_left (option_copied l.rest)
