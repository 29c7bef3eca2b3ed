use Rattle.std.proofs.Common.{◌≡◌, length}
use Rattle.std.specs.List.{list_all}
use Rattle.std.specs.Str.Lines.{lines}
use Rattle.texts.specs.Pieces.{is_blank}
use Rattle.checking.proofs.reading.are_blank_lines.Given as goal

-- the lines so far are blank, so all are where the others are
abbrev pub invariant-loop-line : goal.invariant-loop-line
invariant-loop-line l = list_all (list_all is_blank) (lines l.rest) ≡ list_all (list_all is_blank) (lines l.text)

abbrev pub decreases-loop-line : goal.decreases-loop-line
decreases-loop-line l = length l.rest
