use Rattle.std.proofs.Common.{arith}
use Rattle.std.proofs.lemmas.Grind.{common_steps}
use Rattle.records_written.proofs.MarkLaws.{opened-more}
use Rattle.records_written.proofs.searching.opened.Goals as goal

pub loop-n-preserved : goal.loop-n-preserved
loop-n-preserved c = (
  grind (arith, common_steps, c.in_ok-push.ensures.len, c.loop-n.invariant.0),
  λ m d b less. rw c.in_ok-push.ensures.items (opened-more c.loop-n.all.items c.opening_marks.result c.loop-n.n c.args.first c.loop-n.invariant.0
      c.opening_marks.ensures c.loop-n.invariant.1 m d b less),
)
