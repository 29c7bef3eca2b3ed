use Rattle.std.proofs.Common.{◌≡◌, take}
use Rattle.chart.specs.Sources.{stores_by_row}
use Rattle.chart.proofs.sources.stores_by_row.Given as goal

abbrev pub invariant-loop-row : goal.invariant-loop-row
invariant-loop-row l = l.stores.items ≡ stores_by_row l.hart 0 (take l.row l.entries)
