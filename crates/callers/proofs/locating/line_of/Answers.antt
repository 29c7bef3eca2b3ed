use Rattle.std.proofs.Common.{arith}
use borrow.Author.Count.{below_more}
use Rattle.callers.proofs.Places.{stands_here, begins_here, stands_within}
use Rattle.callers.proofs.locating.line_of.Goals as goal

-- src/locating.rt:29:13
pub returns-then-starts_with-clause-here : goal.returns-then-starts_with-clause-here
returns-then-starts_with-clause-here c = stands_here c.args.words.now c.args.code.now c.loop-line.line c.starts_with.result c.starts_with.ensures.value
    c.loop-line-test.true c.if-starts_with.true

-- src/locating.rt:27:5
pub loop-line-preserved : goal.loop-line-preserved
loop-line-preserved c = below_more _ _ c.loop-line.invariant
    (λ stands. let is = begins_here c.args.words.now c.args.code.now c.loop-line.line c.starts_with.result c.starts_with.ensures.value stands in
    absurd (cc (is, c.if-starts_with.false)))

-- src/locating.rt:20:1
pub returns-clause-none : goal.returns-clause-none
returns-clause-none c _ n stands = c.loop-line.invariant n
    (omega (arith, stands_within c.args.words.now c.args.code.now n c.requires stands, c.loop-line-test.false)) stands
