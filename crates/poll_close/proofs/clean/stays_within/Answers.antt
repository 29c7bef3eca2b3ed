use Rattle.std.proofs.Common.{[], sym, arith}
use Rattle.poll_close.specs.Layout.{layout_of}
use Rattle.poll_close.proofs.clean.stays_within.Goals as goal
use Rattle.std.proofs.lemmas.Bool.Decides.{nat_tests}
use Rattle.poll_close.proofs.ViolationLaws.{stays_more}
use Rattle.poll_close.proofs.Notes.{within_here}
use Rattle.poll_close.proofs.clean.stays_within.Goals.{then-hart-eq0, else-hart-eq0}

-- src/clean.rt:175:13
pub returns-then-end-begin : goal.returns-then-end-begin
returns-then-end-begin c =
    sym (stays_more (layout_of c.args.place []) c.args.count c.args.hart c.args.addr c.args.width c.loop-block.block c.loop-block-test.true
    (within_here (layout_of c.args.place []) c.args.hart c.args.addr c.args.width c.loop-block.block c.if-hart-eq0.own
    (elim c.if-hart-eq0.branch [ then-hart-eq0 w ↦ grind (arith, nat_tests) | else-hart-eq0 w ↦ grind (arith, nat_tests) ])
    c.if-own.true (omega arith) (omega arith)))
