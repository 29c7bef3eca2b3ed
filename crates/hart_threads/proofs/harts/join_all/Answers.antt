use Rattle.std.proofs.Common.{arith}
use Rattle.hart_threads.proofs.Coming.{joined_more}
use Rattle.hart_threads.proofs.harts.join_all.Goals as goal

pub loop-handle-preserved : goal.loop-handle-preserved
loop-handle-preserved g c = record {
  joined = joined_more _ _ _ _ _ _ _ _ c.loop-handle.invariant.joined c.in-Some.ensures.steps.0 c.join.ensures c.push_reserved.ensures.items;
  room = omega (arith, c.in-Some.ensures.steps.1);
  few = omega (arith, c.in-Some.ensures.steps.1);
}
