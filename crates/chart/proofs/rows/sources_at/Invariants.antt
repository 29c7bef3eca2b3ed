use Rattle.std.proofs.Common.{◌≡◌}
use Rattle.chart.specs.Rows.{sources_at}
use Rattle.chart.proofs.rows.sources_at.Given as goal

abbrev pub invariant-loop-i : goal.invariant-loop-i
invariant-loop-i l = l.sources.items ≡ sources_at l.before l.hart l.addr l.i
