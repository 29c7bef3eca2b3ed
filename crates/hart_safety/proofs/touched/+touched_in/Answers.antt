use Rattle.std.proofs.Common.{sym, ap, ◌∙◌}
use Rattle.queue_checker.specs.Trees.{tree_of}
use Rattle.hart_safety.specs.Touched.{touched_at}
use Rattle.hart_safety.proofs.AtLeaves.{leaves_high}
use Rattle.hart_safety.proofs.touched.+touched_in.Goals as goal

pub returns-then-goes_beyond : goal.returns-then-goes_beyond
returns-then-goes_beyond t c =
    let e = leaves_high (touched_at c.args.stores c.args.certificate.now c.args.code.now) c.args.n c.args.state.now c.args.cases.now
    c.in-Split.variable c.in-Split.most c.in-Split.low.value c.in-Split.high.value c.in_ok-above-in-Split.above c.in_ok-below-in-Split.below
    c.deref-then-goes_beyond.result.now c.deref.result.now c.goes_beyond.result c.args.touched c.in_ok-lower-in-Split.lower
    (sym c.cases.view_is ∙ ap tree_of c.in-Split.is) c.in_ok-lower-in-Split.ensures
    c.in_ok-below-in-Split.ensures c.deref.ensures c.goes_beyond.ensures c.if-goes_beyond.true c.in_ok-above-in-Split.ensures
    c.deref-then-goes_beyond.ensures in
    rw e at c.touched_in-then-goes_beyond.ensures
