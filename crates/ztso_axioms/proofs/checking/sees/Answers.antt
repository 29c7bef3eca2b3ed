use Rattle.ztso_axioms.proofs.Checked.{once_of, seen_in_front, seen_after}
use Rattle.ztso_axioms.proofs.checking.sees.Goals as goal

pub returns-then-place-index : goal.returns-then-place-index
returns-then-place-index c =
    seen_in_front c.args.entries.now c.args.order.now c.args.index c.args.place
    (once_of c.args.entries.now c.args.order.now c.requires.once) c.requires.index c.requires.place
    c.if-place-index.true

pub returns-else-place-index : goal.returns-else-place-index
returns-else-place-index c =
    seen_after c.args.entries.now c.args.order.now c.args.index c.args.place c.index-order-index.result
    c.index-order-place.result c.is_earlier.result (once_of c.args.entries.now c.args.order.now c.requires.once)
    c.requires.index c.requires.place c.index-order-index.is c.index-order-place.is c.if-place-index.false
    c.is_earlier.ensures
