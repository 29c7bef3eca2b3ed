use Rattle.std.proofs.Common.{◌≡◌, ◌≤◌, ◌+◌, ◌*◌, ◌++◌, length, drop}
use Rattle.std.specs.String.{string_bytes}
use Rattle.view_engines.specs.TestLines.{column_lines}
use Rattle.view_engines.proofs.test_lines.push_column.Given as goal

abbrev pub invariant-loop-row : goal.invariant-loop-row
invariant-loop-row l = record {
  few : l.pc + 4 * length l.left ≤ 16384;
  so_far : string_bytes l.out ++ column_lines l.hart l.pc l.left (drop l.row-index l.rows) ≡ string_bytes l.fn.out ++ column_lines l.hart 0 l.code l.rows;
}
