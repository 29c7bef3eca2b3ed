use Rattle.std.proofs.Common.{ℕ, ◌≡◌, length}
use Rattle.step_machine.specs.Entries.{read_byte}
use Rattle.ownership_runs.specs.inner.Logging.{logged, is_logged, with_changed}
use Rattle.ownership_runs.proofs.sent.log_store.Given as goal

abbrev pub invariant-loop-number : goal.invariant-loop-number
invariant-loop-number g l = record {
  places : length l.log.items ≡ length l.fn.log.items;
  logged : (k x : ℕ) → logged l.queue l.log.items k x ≡ with_changed (is_logged g.row.M l.queue (length l.fn.log.items) l.store.addr l.number) l.over
      (read_byte l.machine.history.opening l.machine.history.entries l.reader) l.from (logged l.queue l.fn.log.items) k x;
}
