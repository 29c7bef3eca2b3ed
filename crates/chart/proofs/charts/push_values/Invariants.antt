use Rattle.std.proofs.Common.{◌≡◌, ◌++◌, map, take}
use Rattle.std.specs.String.{string_bytes}
use Rattle.chart.specs.Layout.{value_line}
use Rattle.chart.proofs.charts.push_values.Given as goal

abbrev pub invariant-loop-value : goal.invariant-loop-value
invariant-loop-value l = map string_bytes l.out.items ≡ map string_bytes l.fn.out.items ++ map value_line (take l.value-index l.values)
