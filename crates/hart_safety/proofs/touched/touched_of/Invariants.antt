use Rattle.std.proofs.Common.{◌≡◌}
use Rattle.hart_safety.specs.Leaves.{over_states}
use Rattle.hart_safety.specs.Touched.{nothing_touched, touched_at}
use Rattle.hart_safety.proofs.touched.touched_of.Given as goal

abbrev pub invariant-loop-n : goal.invariant-loop-n
invariant-loop-n l = l.touched ≡ over_states (touched_at l.stores l.certificate l.code) l.certificate l.hart l.n nothing_touched
