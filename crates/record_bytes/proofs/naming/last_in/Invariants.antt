use Rattle.std.proofs.Common.{ℕ, ◌≡◌, ◌<◌}
use Rattle.std.specs.List.{list_any}
use Rattle.std.specs.Option.{option_copied}
use Rattle.texts.specs.Pieces.{bytes_left, pieces, pieces_after}
use Rattle.texts.specs.declared.pieces.Separators.TheVariants.{Byte}
use Rattle.record_bytes.specs.Naming.{has_offset}
use Rattle.record_bytes.proofs.naming.last_in.Given as goal

-- past the offset an item of the text has what an item of the rest has
abbrev pub invariant-loop-rest : goal.invariant-loop-rest
invariant-loop-rest l = (b : ℕ) → l.last < b
    → list_any (has_offset b) (pieces_after (Byte 44) (option_copied l.rest)) ≡ list_any (has_offset b) (pieces (Byte 44) l.text)

abbrev pub decreases-loop-rest : goal.decreases-loop-rest
decreases-loop-rest l = bytes_left (option_copied l.rest)
