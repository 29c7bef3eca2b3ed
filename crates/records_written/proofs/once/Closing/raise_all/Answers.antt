use Rattle.std.specs.Prelude.{nat_le}
use Rattle.std.proofs.lemmas.Bool.{leb-true}
use Rattle.records_written.proofs.Again.{all-at, raised-under}
use Rattle.records_written.proofs.once.Closing.raise_all.Goals as goal

pub loop-to-preserved : goal.loop-to-preserved
loop-to-preserved c = λ f ok under. rw c.in_ok-raise.ensures (raised-under _ _ _ f
    (leb-true _ _ (all-at (λ to. nat_le c.args.left (f to)) c.args.targets.now c.loop-to.to-index 0 c.loop-to-test.true ok)) (c.loop-to.invariant f ok under))
