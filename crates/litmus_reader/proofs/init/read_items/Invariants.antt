use Rattle.std.proofs.Common.{◌≡◌}
use Rattle.std.specs.Option.{option_copied}
use Rattle.texts.specs.Pieces.{bytes_left, pieces, pieces_after}
use Rattle.litmus_reader.specs.Init.{no_items, pieces_added, items_of}
use Rattle.litmus_reader.proofs.init.read_items.Given as goal
use Rattle.texts.specs.declared.pieces.Separators.TheVariants.{Byte}

abbrev pub invariant-loop-rest : goal.invariant-loop-rest
invariant-loop-rest l = pieces_added (items_of l.init) (pieces_after (Byte 59) (option_copied l.rest)) ≡ pieces_added no_items (pieces (Byte 59) l.text)

abbrev pub decreases-loop-rest : goal.decreases-loop-rest
decreases-loop-rest l = bytes_left (option_copied l.rest)
