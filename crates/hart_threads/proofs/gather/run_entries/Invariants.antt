use Rattle.std.proofs.Common.{◌≡◌, take}
use Rattle.step_machine.specs.History.{history_of}
use Rattle.hart_threads.proofs.gather.run_entries.Given as goal

abbrev pub invariant-loop-entry : goal.invariant-loop-entry
invariant-loop-entry g l = l.machine.history ≡ history_of l.fn.machine.history.opening (take l.entry-index l.entries)
