use Rattle.std.proofs.Common.{arith}
use Rattle.shrink.proofs.PassLaws.{pass_start, pass_without, pass_beyond}
use Rattle.shrink.proofs.passes.leave_out_pieces.Goals as goal

pub loop-from-init : goal.loop-from-init
loop-from-init g c = record { stands = c.requires.stands; pass = pass_start (g.Q.Question.holds c.args.question.now) _ _ c.requires.holds }

pub loop-from-preserved-then-branch : goal.loop-from-preserved-then-branch
loop-from-preserved-then-branch g c =
    let holds = rw c.deref-in-loop-from.ensures.value at c.in_ok-holds_of.ensures.holds in
    let is = rw c.deref.ensures.value at c.in_ok-left.ensures in record {
      stands = c.in_ok-holds_of.ensures.stands;
      pass = pass_without _ _ _ _ _ _ _ _ c.loop-from.invariant.pass
          (omega (arith, c.requires.some, c.min-count.ensures, c.len.ensures, c.loop-from-test.true))
          (omega (arith, c.min-count.ensures, c.len.ensures, c.loop-from-test.true)) is (holds.0 c.if-branch.true);
    }

pub loop-from-preserved : goal.loop-from-preserved
loop-from-preserved g c =
    let holds = rw c.deref-in-loop-from.ensures.value at c.in_ok-holds_of.ensures.holds in
    let is = rw c.deref.ensures.value at c.in_ok-left.ensures in record {
      stands = c.in_ok-holds_of.ensures.stands;
      pass = pass_beyond _ _ _ _ _ _ _ _ c.loop-from.invariant.pass
          (omega (arith, c.len.ensures, c.loop-from-test.true)) (omega (arith, c.min-count.ensures, c.len.ensures)) is
          (λ left_holds. absurd (let yes = holds.1 left_holds in cc));
    }
