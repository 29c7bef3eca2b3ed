use Rattle.std.proofs.Common.{ℕ, ◌≡◌, ◌<◌, ◌+◌, ◌*◌, ◌==◌, not, []}
use Rattle.step_machine.specs.Entries.{memory_word}
use Rattle.callers.specs.Violations.{waits_in}
use Rattle.callers.proofs.locating.are_as_owed.Given as goal

abbrev pub invariant-loop-slot : goal.invariant-loop-slot
invariant-loop-slot g l = (j : ℕ) → j < l.slot
    → (memory_word l.machine.history.opening [] (l.queue.base + 128 + 4 * j) == 0) ≡ not (waits_in l.machine.history.opening l.queue j)
