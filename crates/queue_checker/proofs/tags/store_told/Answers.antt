use Rattle.std.proofs.Common.{to_z-of_z}
use Rattle.queue_certificates.specs.Tags.{told_by_store}
use Rattle.queue_checker.proofs.tags.store_told.Goals as goal

pub returns : goal.returns
unfolding told_by_store
returns c = rw (simp (to_z-of_z, c.ranges.offset) at c.in_ok-target.ensures, c.in_ok-stored.ensures) at c.stored_told.ensures
