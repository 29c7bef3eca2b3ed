-- Each event of a kept history makes its own entry.
use Rattle.hart_threads.proofs.Made.{other_made}
use Rattle.hart_threads.proofs.gather.run_entries.Goals as goal

pub returns-then-not-is_made : goal.returns-then-not-is_made
returns-then-not-is_made g c = λ kept.
    other_made g.row.B g.row.M c.args.machine.now.history.opening c.args.entries.now c.loop-entry.entry-index _ c.loop-entry.machine.history _ _ _
    c.loop-entry-test.true c.loop-entry.invariant c.event.ensures c.in_ok-step.ensures.happens c.if-not-is_made.ensures kept
