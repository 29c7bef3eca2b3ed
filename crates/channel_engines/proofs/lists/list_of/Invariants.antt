use Rattle.std.proofs.Common.{◌≡◌}
use Rattle.std.specs.Option.{option_copied}
use Rattle.texts.specs.declared.pieces.Separators.TheVariants.{Spaces}
use Rattle.texts.specs.Pieces.{pieces, pieces_after, bytes_left}
use Rattle.assembler.specs.Drafts.{onto}
use Rattle.channel_engines.specs.Lists.{with_bytes, list_at}
use Rattle.channel_engines.proofs.lists.list_of.Given as goal

-- the words so far, and those of the pieces left, are what the line says
abbrev pub invariant-loop-rest : goal.invariant-loop-rest
invariant-loop-rest l = onto l.list.items (list_at (with_bytes (pieces_after Spaces (option_copied l.rest)))) ≡ list_at (with_bytes (pieces Spaces l.line))

abbrev pub decreases-loop-rest : goal.decreases-loop-rest
decreases-loop-rest l = bytes_left (option_copied l.rest)
