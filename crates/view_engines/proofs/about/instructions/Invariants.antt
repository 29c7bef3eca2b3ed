use Rattle.std.proofs.Common.{◌≡◌, map}
use Rattle.std.specs.List.{range_with_len}
use Rattle.std.specs.String.{string_bytes}
use Rattle.step_machine.specs.History.{history_of, up_to}
use Rattle.view_engines.specs.About.{instruction_of_row}
use Rattle.view_engines.proofs.about.instructions.Given as goal

-- the machine has run the entries before this one
abbrev pub invariant-loop-entry : goal.invariant-loop-entry
invariant-loop-entry g l = record {
  history : l.machine.history ≡ up_to l.entry-index (history_of l.fn.machine.history.opening l.entries);
  texts : map string_bytes l.texts.items ≡
      map (instruction_of_row g.row.M (history_of l.fn.machine.history.opening l.entries)) (range_with_len 0 l.entry-index);
}
