use Rattle.std.proofs.Common.{◌≡◌, drop}
use Rattle.poll_close.specs.Plans.{is_closed}
use Rattle.poll_close.proofs.plans.is_reported_closed.Given as goal

-- the reports that are left say what all of them say
abbrev pub invariant-loop-report : goal.invariant-loop-report
invariant-loop-report l = is_closed l.reports l.sender ≡ is_closed (drop l.report-index l.reports) l.sender
