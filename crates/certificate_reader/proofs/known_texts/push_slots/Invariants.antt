use Rattle.std.proofs.Common.{◌≡◌, ◌+◌, ◌≤◌, ◌++◌, length}
use Rattle.std.specs.String.{string_bytes}
use Rattle.certificate_reader.specs.Writing.{lines_text, slot_lines}
use Rattle.certificate_reader.proofs.known_texts.push_slots.Given as goal

abbrev pub invariant-slots : goal.invariant-slots
invariant-slots l = record {
  so_far : string_bytes l.out ++ lines_text l.front (slot_lines l.queue l.position l.rest) ≡ string_bytes l.fn.out
      ++ lines_text l.front (slot_lines l.queue 0 l.slots);
  few : l.position + length l.rest ≤ length l.slots;
}

abbrev pub decreases-slots : goal.decreases-slots
decreases-slots l = length l.rest
