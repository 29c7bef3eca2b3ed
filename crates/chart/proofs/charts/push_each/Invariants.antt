use Rattle.std.proofs.Common.{◌≡◌, ◌++◌, map}
use Rattle.std.specs.String.{string_bytes}
use Rattle.chart.specs.Layout.{first_pending}
use Rattle.chart.proofs.charts.push_each.Given as goal

abbrev pub invariant-loop-i : goal.invariant-loop-i
invariant-loop-i l = map string_bytes l.out.items ≡ map string_bytes l.fn.out.items ++ first_pending l.about l.hart l.pending l.i
