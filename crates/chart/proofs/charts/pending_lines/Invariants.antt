use Rattle.std.proofs.Common.{◌≡◌, map}
use Rattle.std.specs.String.{string_bytes}
use Rattle.chart.specs.Layout.{pending_lines}
use Rattle.chart.proofs.charts.pending_lines.Given as goal

abbrev pub invariant-loop-hart : goal.invariant-loop-hart
invariant-loop-hart l = map string_bytes l.lines.items ≡ pending_lines l.about l.entries l.hart
