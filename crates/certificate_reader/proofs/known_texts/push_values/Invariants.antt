use Rattle.std.proofs.Common.{◌≡◌, ◌+◌, ◌≤◌, ◌++◌, length}
use Rattle.std.specs.String.{string_bytes}
use Rattle.certificate_reader.specs.Writing.{lines_text, value_lines}
use Rattle.certificate_reader.proofs.known_texts.push_values.Given as goal

abbrev pub invariant-values : goal.invariant-values
invariant-values l = record {
  so_far : string_bytes l.out ++ lines_text l.front (value_lines l.name l.place l.rest) ≡ string_bytes l.fn.out
      ++ lines_text l.front (value_lines l.name 0 l.values);
  few : l.place + length l.rest ≤ length l.values;
}

abbrev pub decreases-values : goal.decreases-values
decreases-values l = length l.rest
