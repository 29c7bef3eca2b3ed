use borrow.Author.Count.{below_more}
use Rattle.callers.proofs.locating.are_as_owed.Goals as goal

pub loop-slot-preserved : goal.loop-slot-preserved
loop-slot-preserved g c = below_more _ _ c.loop-slot.invariant c.in_ok-is_slot_as_owed.ensures.slot
