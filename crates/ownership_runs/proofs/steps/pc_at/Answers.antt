use Rattle.std.proofs.Common.{sym}
use Rattle.ownership_runs.proofs.Stepping.{pc-at, pc-past}
use Rattle.ownership_runs.proofs.steps.pc_at.Goals as goal

pub returns-then-place-steps : goal.returns-then-place-steps
returns-then-place-steps c = pc-at c.args.steps.now c.args.place _ c.if-place-steps.true

pub returns-else-place-steps : goal.returns-else-place-steps
returns-else-place-steps c = sym (pc-past c.args.steps.now c.args.place c.if-place-steps.false)
