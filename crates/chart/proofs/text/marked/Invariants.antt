use Rattle.std.proofs.Common.{◌≡◌, take}
use Rattle.chart.specs.Pictures.{mark_byte}
use Rattle.chart.proofs.text.marked.Given as goal

abbrev pub invariant-loop-mark : goal.invariant-loop-mark
invariant-loop-mark l = l.found ≡ mark_byte l.cell l.stroke (take l.mark-index l.marks)
