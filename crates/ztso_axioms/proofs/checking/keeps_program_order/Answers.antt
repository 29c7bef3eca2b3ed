use Rattle.std.proofs.Common.{◌≡◌, true, arith, refl, below_more}
use Rattle.ztso_axioms.proofs.Checked.{NoneBelongsBefore, keeps_from_indices, indices_from_keeps, slice_from_none, none_from_slice}
use Rattle.ztso_axioms.proofs.checking.keeps_program_order.Goals as goal

pub returns-then-not-may_precede : goal.returns-then-not-may_precede
returns-then-not-may_precede c = (
  λ so. (cc),
  λ keeps.
      let none : NoneBelongsBefore c.args.entries.now c.args.order.now c.loop-index.index = indices_from_keeps
      c.args.entries.now c.args.order.now c.loop-index.index c.requires keeps c.loop-index-test.true in
      let so : c.may_precede.result ≡ true = c.may_precede.ensures.1
      (slice_from_none c.args.entries.now c.args.order.now c.loop-index.index c.index-order-index.result
      c.loop-index-test.true c.index-order-index.is none) in
      cc,
)

pub loop-index-preserved : goal.loop-index-preserved
loop-index-preserved c =
    below_more (NoneBelongsBefore c.args.entries.now c.args.order.now) c.loop-index.index c.loop-index.invariant
    (none_from_slice c.args.entries.now c.args.order.now c.loop-index.index c.index-order-index.result
    c.loop-index-test.true c.index-order-index.is (c.may_precede.ensures.0 c.if-not-may_precede.false))

pub returns : goal.returns
returns c =
    (λ so. keeps_from_indices c.args.entries.now c.args.order.now c.requires (λ i lt. c.loop-index.invariant i (omega arith)), λ keeps. refl)
