-- The place is the dense one.
use Rattle.std.proofs.Common.{ℕ, Vec, Global, map, subst}
use Rattle.poll_close.specs.Delivery.{DeliversOver}
use Rattle.poll_close.proofs.delivery.deliver.Goals as goal

pub returns-in-Ok-clause-delivers : goal.returns-in-Ok-clause-delivers
returns-in-Ok-clause-delivers g c =
    subst (λ l. DeliversOver g.K.RingKind.ring g.row.B g.row.M (map (λ (v : Vec ℕ Global). v.items) c.args.lists.now) l
    c.args.events.now c.in-Ok.reports.items) c.dense.ensures c.in-Ok.ensures.delivers
