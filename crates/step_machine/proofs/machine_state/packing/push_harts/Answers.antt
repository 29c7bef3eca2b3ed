use Rattle.std.proofs.Common.{◌<◌, length, arith}
use Rattle.step_machine.specs.Positions.{packed_hart, IsSoundHart}
use Rattle.step_machine.proofs.TakingLaws.{packed_more, all_more}
use Rattle.step_machine.proofs.machine_state.packing.push_harts.Goals as goal

pub loop-hart-preserved : goal.loop-hart-preserved
loop-hart-preserved c =
    let within : c.loop-hart.hart-index < length c.args.harts.now = omega (arith, c.loop-hart-test.true) in
    record {
      words = packed_more packed_hart c.args.harts.now c.loop-hart.hart-index c.hart-item.result c.args.out.now.items c.loop-hart.out.items
          c.push_hart.new.out.items within c.hart-item.is c.loop-hart.invariant.words c.in_ok-push_hart.ensures.words;
      sound = all_more IsSoundHart c.args.harts.now c.loop-hart.hart-index c.hart-item.result within c.hart-item.is c.loop-hart.invariant.sound
          c.in_ok-push_hart.ensures.sound;
    }
