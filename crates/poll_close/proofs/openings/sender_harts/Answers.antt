use Rattle.std.proofs.Common.{◌∙◌, []}
use Rattle.poll_close.proofs.openings.sender_harts.Goals as goal
use Rattle.poll_close.specs.Layout.{layout_of}
use Rattle.poll_close.proofs.Opened.{senders-more}

pub loop-index-preserved : goal.loop-index-preserved
loop-index-preserved c =
    senders-more c.args.lists.now c.args.code.now (layout_of c.args.place []) c.loop-index.index
    c.loop-index.harts.items c.push.new.self.items c.index-lists-index.result _ c.loop-index-test.true
    c.index-lists-index.is c.loop-index.invariant c.in_ok-push.ensures.items c.in_ok-from_slice.ensures.items
    c.sender_registers.ensures (c.in_ok-from_slice-2.ensures.items ∙ c.deref.ensures.value)
