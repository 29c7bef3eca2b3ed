use Rattle.std.proofs.Common.{◌≡◌, take}
use Rattle.std.specs.Prelude.{map}
use Rattle.queue_certificates.specs.{lifted, share_by}
use Rattle.queue_checker.proofs.states.lifted_shares.Given as goal

abbrev pub invariant-loop-share : goal.invariant-loop-share
invariant-loop-share l = l.out.items ≡ map (share_by lifted) (take l.share-index l.shares)
