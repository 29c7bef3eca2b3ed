use Rattle.std.proofs.Common.{◌≡◌, ◌≤◌, ◌+◌, ◌++◌, length}
use Rattle.std.specs.Option.{option_copied}
use Rattle.texts.specs.Pieces.{bytes_left, pieces, pieces_after}
use Rattle.texts.specs.declared.pieces.Separators.TheVariants.{Byte}
use Rattle.litmus_reader.specs.Listings.{rows_from}
use Rattle.litmus_reader.proofs.listings.rows_from.Given as goal

abbrev pub invariant-loop-rest : goal.invariant-loop-rest
invariant-loop-rest l = record {
  few : l.ended + bytes_left (option_copied l.rest) ≤ l.above + length l.table + 1;
  so_far : l.rows.items ++ rows_from l.ended l.original (pieces_after (Byte 10) (option_copied l.rest)) ≡ rows_from l.above l.text (pieces (Byte 10) l.table);
}

abbrev pub decreases-loop-rest : goal.decreases-loop-rest
decreases-loop-rest l = bytes_left (option_copied l.rest)
