use Rattle.std.proofs.Common.{add-one, refl}
use Rattle.queue_checker.proofs.stores.may_store_all.Goals as goal

pub loop-i-preserved : goal.loop-i-preserved
loop-i-preserved c = rw (c.both-all.ensures, c.in_ok-may.ensures, c.loop-i.invariant, add-one) refl
