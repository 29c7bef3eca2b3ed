use Rattle.std.proofs.Common.{◌≡◌, []}
use Rattle.std.specs.Option.{option_copied}
use Rattle.texts.specs.Pieces.{pieces_after, bytes_left}
use Rattle.texts.specs.declared.pieces.Separators.TheVariants.{Byte}
use Rattle.certificate_reader.specs.FormTexts.{factors_after}
use Rattle.certificate_reader.proofs.forms.factors_of.Given as goal

-- the factors so far, with those of the rest, are what the text says
abbrev pub invariant-loop-rest : goal.invariant-loop-rest
invariant-loop-rest l =
    factors_after l.variables l.factors.items (pieces_after (Byte 43) (option_copied l.rest))
    ≡ factors_after l.variables [] (pieces_after (Byte 43) (option_copied l.text))

abbrev pub decreases-loop-rest : goal.decreases-loop-rest
decreases-loop-rest l = bytes_left (option_copied l.rest)
