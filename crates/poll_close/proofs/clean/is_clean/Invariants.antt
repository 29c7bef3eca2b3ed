use Rattle.std.proofs.Common.{map, take}
use Rattle.poll_close.specs.Violations.{IsNoted}
use Rattle.poll_close.proofs.clean.is_clean.Given as goal

abbrev pub invariant-loop-report : goal.invariant-loop-report
invariant-loop-report l = IsNoted (map (λ v. v.items) l.lists) (take l.report-index l.reports) l.shares.items
