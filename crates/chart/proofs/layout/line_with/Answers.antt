use Rattle.std.proofs.Common.{◌∙◌, ap}
use Rattle.step_machine.specs.Entries.{hart_of}
use Rattle.chart.specs.Rows.{RowOf}
use Rattle.chart.proofs.layout.line_with.Goals as goal

pub returns : goal.returns
returns c =
    rw (
      c.column_of-column.ensures,
      c.shape.ensures,
      c.hart.ensures ∙ ap (λ (r : RowOf). hart_of r.entry) c.row.view_is,
      c.in_ok-label.ensures.value,
      c.in_ok-kept.ensures.value,
    )
    at c.row_line.ensures
