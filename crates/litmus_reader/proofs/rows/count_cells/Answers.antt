use Rattle.std.proofs.Common.{◌+◌, ap, sym, ◌∙◌}
use Rattle.std.proofs.lemmas.List.Splits.{length-slice_split}
use Rattle.texts.specs.Cutting.{is_byte}
use Rattle.litmus_reader.proofs.rows.count_cells.Goals as goal

pub returns-clause-count : goal.returns-clause-count
returns-clause-count c = ap (λ n. n + 1) c.count_bars.ensures.count ∙ sym (length-slice_split (is_byte 124) c.args.row.now)
