-- The place is the dense one.
use Rattle.std.proofs.Common.{ℕ, Vec, Global, length, map, subst}
use Rattle.poll_close.specs.{opening_over, AllTouch}
use Rattle.hart_threads.specs.{IsRecord, ChannelFailsAt}
use Rattle.hart_threads.specs.declared.fault.ChannelFaultAt.TheVariants as channel_at
use Rattle.hart_threads.proofs.channels.deliver_threads.Goals as goal

pub returns-in-Ok-clause-record : goal.returns-in-Ok-clause-record
returns-in-Ok-clause-record g c =
    subst (λ l. IsRecord g.row.B g.row.M (opening_over g.K.RingKind.ring (map (λ (v : Vec ℕ Global). v.items) c.args.lists.now) l)
    c.in-Ok.record.0) c.dense.ensures c.in-Ok.ensures.record

pub returns-in-Err-Threads-clause-fault : goal.returns-in-Err-Threads-clause-fault
returns-in-Err-Threads-clause-fault g c =
    let failed = rw c.in-Err-Threads.field-0-is at c.in-Err-Threads.ensures.fault in
    subst (λ l. ChannelFailsAt g.K.RingKind.ring g.row.B g.row.M c.args.turns
    (map (λ (v : Vec ℕ Global). v.items) c.args.lists.now) l (channel_at.Threads c.in-Err-Threads.fault)) c.dense.ensures
    failed

pub returns-in-Ok-clause-touches : goal.returns-in-Ok-clause-touches
returns-in-Ok-clause-touches g c =
    subst (λ l. AllTouch l (length c.args.lists.now) c.in-Ok.record.0.trace.entries) c.dense.ensures c.in-Ok.ensures.touches
