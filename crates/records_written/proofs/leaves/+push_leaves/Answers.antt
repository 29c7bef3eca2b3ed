use Rattle.std.proofs.Common.{ℕ, ◌≡◌, ◌++◌, Bool, true, Some, List, get_or, sym, ap, ◌∙◌, append_assoc}
use Rattle.queue_certificates.specs.{Form, KnownState}
use Rattle.queue_certificates.specs.Cases.{Arrow, Cases, split, with_low, with_high, may_exceed}
use Rattle.queue_checker.specs.Trees.{tree_of}
use Rattle.queue_layouts.specs.Sides.{the_party}
use Rattle.records_written.specs.{PartyLeaf, leaf_by, leaves_in}
use Rattle.records_written.proofs.leaves.+push_leaves.Goals as goal

-- the leaves by two cases, of which the higher one may be
high_leaves : (f : KnownState → Form → List Arrow → PartyLeaf) (k : KnownState) (cases : Cases) (j v : ℕ) (low high : Cases)
    (a w : KnownState) (x y : Cases) (d : Bool) (before middle : List PartyLeaf) → cases ≡ split j v low high → middle ≡ before ++ leaves_in f w y
    → w ≡ with_low k j v → y ≡ low → d ≡ may_exceed v (get_or k.ranges j (Some 0)) → d ≡ true → a ≡ with_high k j v → x ≡ high
    → middle ++ leaves_in f a x ≡ before ++ leaves_in f k cases
high_leaves f k cases j v low high a w x y d before middle is_split is_middle is_w is_y is_d d_true is_a is_x =
    let exceeds : may_exceed v (get_or k.ranges j (Some 0)) ≡ true = sym is_d ∙ d_true in
    rw (is_split, is_middle, is_w, is_y, is_a, is_x, exceeds) (append_assoc before (leaves_in f (with_low k j v) low) (leaves_in f (with_high k j v) high))

pub returns-then-goes_beyond : goal.returns-then-goes_beyond
returns-then-goes_beyond t c =
    let e = high_leaves (leaf_by c.args.certificate.now c.args.queue (the_party c.args.party) c.args.code.now) c.args.state.now c.args.cases.now
    c.in-Split.variable c.in-Split.most c.in-Split.low.value c.in-Split.high.value c.in_ok-above-in-Split.above c.in_ok-below-in-Split.below
    c.deref-then-goes_beyond.result.now c.deref-in-Split.result.now c.goes_beyond.result c.args.leaves.now.items
    c.push_leaves.new.leaves.items (sym c.cases.view_is ∙ ap tree_of c.in-Split.is)
    c.in_ok-push_leaves-in-Split.ensures c.in_ok-below-in-Split.ensures c.deref-in-Split.ensures c.goes_beyond.ensures c.if-goes_beyond.true
    c.in_ok-above-in-Split.ensures c.deref-then-goes_beyond.ensures in
    rw e at c.push_leaves-then-goes_beyond.ensures
