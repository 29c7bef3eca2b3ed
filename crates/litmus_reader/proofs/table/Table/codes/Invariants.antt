use Rattle.std.proofs.Common.{◌≡◌}
use Rattle.litmus_reader.specs.Table.{codes_of, instructions, ArePlain}
use Rattle.litmus_reader.proofs.TableLaws.{going}
use Rattle.litmus_reader.proofs.table.Table.codes.Given as goal

abbrev pub invariant-loop-column : goal.invariant-loop-column
invariant-loop-column l = record {
  plain : ArePlain l.codes.items;
  so_far : going l.faulty (instructions l.codes) (codes_of l.column-iterator.rest.items) ≡ codes_of l.fn.self;
}
