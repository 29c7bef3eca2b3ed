use Rattle.std.proofs.Common.{◌≡◌, ◌+◌, ◌≤◌, ◌++◌, length}
use Rattle.std.specs.String.{string_bytes}
use Rattle.certificate_reader.specs.Writing.{lines_text, filled_lines}
use Rattle.certificate_reader.proofs.known_texts.push_filled.Given as goal

abbrev pub invariant-queues : goal.invariant-queues
invariant-queues l = record {
  so_far : string_bytes l.out ++ lines_text l.front (filled_lines l.queue l.rest) ≡ string_bytes l.fn.out
      ++ lines_text l.front (filled_lines 0 l.filled);
  few : l.queue + length l.rest ≤ length l.filled;
}

abbrev pub decreases-queues : goal.decreases-queues
decreases-queues l = length l.rest
