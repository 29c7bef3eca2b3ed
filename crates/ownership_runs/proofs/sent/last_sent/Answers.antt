use Rattle.std.proofs.Common.{arith}
use Rattle.ownership_runs.proofs.Logs.{last-is}
use Rattle.ownership_runs.proofs.sent.last_sent.Goals as goal

pub returns-else-count-eq0 : goal.returns-else-count-eq0
returns-else-count-eq0 c = last-is c.args.first c.args.later.now _ _ (omega arith)
