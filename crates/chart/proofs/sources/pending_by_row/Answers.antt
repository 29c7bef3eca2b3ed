use Rattle.std.proofs.Common.{ap, ◌∙◌, drop, arith}
use Rattle.chart.specs.Sources.{stores_by_row}
use Rattle.chart.proofs.ByRow.{left_over}
use Rattle.chart.proofs.sources.pending_by_row.Goals as goal

pub returns : goal.returns
returns c =
    c.in_ok-pending.ensures.items
    ∙ left_over c.lands.result c.min-landed.result c.deref.result.now
    (stores_by_row c.args.hart 0 c.args.entries.now) (c.deref.ensures.value ∙ c.in_ok-stores.ensures)
    (omega (arith, c.min-landed.ensures, c.len.ensures, c.deref.ensures.len))
    ∙ ap (λ n. drop n (stores_by_row c.args.hart 0 c.args.entries.now)) c.lands.ensures
