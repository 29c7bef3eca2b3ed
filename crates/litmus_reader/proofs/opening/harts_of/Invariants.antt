use Rattle.std.proofs.Common.{◌≡◌, ◌++◌, ◌+◌, ◌≤◌, length, drop, vec_len}
use Rattle.litmus_reader.specs.Values.{starts_of}
use Rattle.litmus_reader.proofs.opening.harts_of.Given as goal

abbrev pub invariant-loop-code : goal.invariant-loop-code
invariant-loop-code l = record {
  room : vec_len l.harts + length l.code-iterator.rest.items ≤ length l.registers;
  so_far : l.harts.items ++ starts_of l.code-iterator.rest.items (drop (vec_len l.harts) l.registers) ≡ starts_of l.fn.codes.items l.registers;
}
