use Rattle.std.proofs.Common.{◌≡◌, take}
use Rattle.std.specs.String.{string_bytes}
use Rattle.chart.specs.Tags.{with_rows}
use Rattle.chart.proofs.tags.push_rows.Given as goal

abbrev pub invariant-loop-row : goal.invariant-loop-row
invariant-loop-row l = string_bytes l.out ≡ with_rows (string_bytes l.fn.out) (take l.row-index l.rows)
