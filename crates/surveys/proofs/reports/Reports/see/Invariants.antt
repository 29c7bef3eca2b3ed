use Rattle.std.proofs.Common.{◌≡◌, length}
use Rattle.surveys.proofs.reports.Reports.see.Given as goal

abbrev pub invariant-loop-hart : goal.invariant-loop-hart
invariant-loop-hart g l = length l.machine.harts ≡ length l.fn.machine.harts
