use Rattle.std.proofs.Common.{◌≡◌}
use Rattle.std.specs.Prelude.{nat_lt, length}
use Rattle.std.specs.List.{filter}
use Rattle.std.specs.Option.{option_copied}
use Rattle.texts.specs.Pieces.{bytes_left, pieces_after}
use Rattle.texts.specs.declared.pieces.Separators.TheVariants.{Gaps}
use Rattle.litmus_reader.specs.Headings.{in_one_line}
use Rattle.litmus_reader.proofs.HeadingLaws.{carried}
use Rattle.litmus_reader.proofs.headings.in_one_line.Given as goal

abbrev pub invariant-loop-rest : goal.invariant-loop-rest
invariant-loop-rest l = carried l.line.items (filter (λ piece. nat_lt 0 (length piece)) (pieces_after Gaps (option_copied l.rest))) ≡ in_one_line l.text

abbrev pub decreases-loop-rest : goal.decreases-loop-rest
decreases-loop-rest l = bytes_left (option_copied l.rest)
