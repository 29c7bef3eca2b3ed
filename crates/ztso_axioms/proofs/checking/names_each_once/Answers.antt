use Rattle.std.proofs.Common.{◌≤◌, length, arith}
use Rattle.ztso_axioms.proofs.Checked.{names_from, operations_from}
use Rattle.ztso_axioms.proofs.checking.names_each_once.Goals as goal

pub returns : goal.returns
returns c =
    let all : length c.args.entries.now ≤ c.loop-place.place = omega arith in (
      λ so. names_from c.args.entries.now c.args.order.now (λ p lt. c.loop-place.invariant p (omega arith)) (c.names_operations.ensures.0 so),
      λ n. c.names_operations.ensures.1 (operations_from c.args.entries.now c.args.order.now n),
    )
