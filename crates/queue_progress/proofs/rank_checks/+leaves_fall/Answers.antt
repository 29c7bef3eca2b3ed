use Rattle.std.proofs.Common.{sym, ap, ◌∙◌}
use Rattle.queue_certificates.specs.Forms.{raised}
use Rattle.queue_checker.specs.Trees.{tree_of}
use Rattle.queue_progress.specs.Falling.{leaf_falls}
use Rattle.queue_progress.proofs.HigherLeaves.{high_ranked}
use Rattle.queue_progress.proofs.rank_checks.+leaves_fall.Goals as goal

pub returns-then-goes_beyond : goal.returns-then-goes_beyond
returns-then-goes_beyond g t c =
    let e = high_ranked (leaf_falls c.args.of.now.certificate.now c.args.of.now.hart c.args.of.now.code.now (g.K.Kind.other c.args.kind.now)
    (g.K.Kind.cut c.args.kind.now) c.args.ranks.now) c.args.rank.now c.args.state.now c.args.cases.now c.in-Split.variable c.in-Split.most
    c.in-Split.low.value c.in-Split.high.value c.in_ok-above-in-Split.above c.in_ok-below-in-Split.below c.in_ok-more-in-Split.more
    c.deref-then-goes_beyond.result.now c.deref-in-Split.result.now c.in_ok-holds-in-Split.holds c.goes_beyond.result
    (sym c.cases.view_is ∙ ap tree_of c.in-Split.is) c.in_ok-holds-in-Split.ensures c.if-holds.true c.in_ok-below-in-Split.ensures
    c.deref-in-Split.ensures c.goes_beyond.ensures c.if-goes_beyond.true c.in_ok-above-in-Split.ensures
    (c.in_ok-more-in-Split.ensures ∙ ap (λ n. raised c.in-Split.variable n c.args.rank.now) c.in_ok-sum-in-Split.ensures.value)
    c.deref-then-goes_beyond.ensures in
    rw e at c.leaves_fall-then-goes_beyond.ensures
