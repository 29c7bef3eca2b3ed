use Rattle.std.proofs.Common.{arith}
use Rattle.step_machine.proofs.Snapshots.{saved_more}
use Rattle.step_machine.proofs.machine_state.save_harts.Goals as goal

pub loop-hart-preserved : goal.loop-hart-preserved
loop-hart-preserved c =
    saved_more c.args.harts.now c.loop-hart.saved.items c.push.new.self.items c.loop-hart.hart-index
    c.hart-item.result c.save.result c.loop-hart.invariant (omega (arith, c.loop-hart-test.true)) c.hart-item.is
    c.save.ensures c.in_ok-push.ensures.items
