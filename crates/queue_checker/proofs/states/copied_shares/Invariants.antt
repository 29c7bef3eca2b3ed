use Rattle.std.proofs.Common.{◌≡◌, take}
use Rattle.queue_checker.proofs.states.copied_shares.Given as goal

abbrev pub invariant-loop-share : goal.invariant-loop-share
invariant-loop-share l = l.out.items ≡ take l.share-index l.shares
