use Rattle.std.proofs.Common.{◌+◌, length, arith}
use Rattle.std.proofs.lemmas.Fmt.{length-decimal-le}
use Rattle.view_engines.specs.LeastWidths.{store_count}
use Rattle.view_engines.proofs.least_widths.number_cells.Goals as goal

pub overflow_cast-result : goal.overflow_cast-result
overflow_cast-result c = grind (arith, length-decimal-le 20 (length c.args.words.now + store_count c.args.words.now))
