use Rattle.std.proofs.Common.{◌≡◌, ◌++◌, length}
use Rattle.hart_safety.specs.Shared.{all_joined, joined_from}
use Rattle.hart_safety.proofs.shared.all_joined.Given as goal

abbrev pub invariant-loop-rest : goal.invariant-loop-rest
invariant-loop-rest l = l.out.items ++ joined_from l.region l.rest ≡ all_joined l.fn.regions

abbrev pub decreases-loop-rest : goal.decreases-loop-rest
decreases-loop-rest l = length l.rest
