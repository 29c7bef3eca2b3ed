use Rattle.step_machine.specs.Entries.{memory_byte}
use Rattle.ownership_runs.proofs.Logs.{IsOpenedTo}
use Rattle.ownership_runs.proofs.sent.open_log.Given as goal

abbrev pub invariant-loop-place : goal.invariant-loop-place
invariant-loop-place g l = IsOpenedTo l.queue (memory_byte l.machine.history.opening l.machine.history.entries) l.from l.place l.log.items
