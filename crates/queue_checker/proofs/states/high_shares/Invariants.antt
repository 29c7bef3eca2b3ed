use Rattle.std.proofs.Common.{◌≡◌, take}
use Rattle.std.specs.Prelude.{map}
use Rattle.queue_certificates.specs.{settled, raised, share_by}
use Rattle.queue_checker.proofs.states.high_shares.Given as goal

abbrev pub invariant-loop-share : goal.invariant-loop-share
invariant-loop-share l = l.out.items ≡ map (share_by (λ f. settled l.ranges (raised l.variable l.by f))) (take l.share-index l.shares)
