use Rattle.std.proofs.Common.{◌≡◌, ◌+◌, length, take, drop, vec_len}
use Rattle.std.specs.Option.{option_copied}
use Rattle.texts.specs.Pieces.{bytes_left, pieces_after}
use Rattle.assembler.specs.Drafts.{onto}
use Rattle.litmus_reader.specs.{cells_of, cells_added}
use Rattle.litmus_reader.proofs.table.Table.tell_cells.Given as goal
use Rattle.texts.specs.declared.pieces.Separators.TheVariants.{Byte}

abbrev pub invariant-loop-rest : goal.invariant-loop-rest
invariant-loop-rest l = record {
  count : l.hart + length (pieces_after (Byte 124) (option_copied l.rest)) ≡ vec_len l.self-inside.columns;
  same : vec_len l.self-inside.columns ≡ length l.fn.self;
  so_far : onto (take l.hart l.self-inside.columns.items)
      (cells_added (drop l.hart l.self-inside.columns.items) (pieces_after (Byte 124) (option_copied l.rest)))
      ≡ cells_added l.fn.self (cells_of l.row);
}

abbrev pub decreases-loop-rest : goal.decreases-loop-rest
decreases-loop-rest l = bytes_left (option_copied l.rest)
