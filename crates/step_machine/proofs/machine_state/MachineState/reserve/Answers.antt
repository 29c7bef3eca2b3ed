-- Each turn gives one more hart its room, and leaves all else.
use Rattle.std.proofs.Common.{◌∙◌, arith}
use Rattle.step_machine.specs.inner.Config.{SameButRoom}
use Rattle.step_machine.proofs.Rooms.{same_after, same_whichever, more_whichever, room_below_next, all_have_room, same-length}
use Rattle.step_machine.proofs.machine_state.MachineState.reserve.Goals as goal

pub returns-in_err-reserve_at-clause-more : goal.returns-in_err-reserve_at-clause-more
returns-in_err-reserve_at-clause-more g c = λ r all.
    more_whichever c.loop-index.self c.reserve_at.new.self c.loop-index.index c.args.n r c.reserve_at.result
    c.reserve_at.ensures.ok c.reserve_at.ensures.err (c.loop-index.invariant.more r all)

pub loop-index-preserved : goal.loop-index-preserved
loop-index-preserved g c =
    let same : SameButRoom c.loop-index.self c.reserve_at.new.self =
    same_whichever c.loop-index.self c.reserve_at.new.self c.loop-index.index c.args.n c.reserve_at.result c.reserve_at.ensures.ok c.reserve_at.ensures.err in
    record {
      below = room_below_next c.loop-index.self c.reserve_at.new.self c.loop-index.index c.args.n c.in_ok-reserve_at.ensures.ok c.loop-index.invariant.below;
      more = λ r all. more_whichever c.loop-index.self c.reserve_at.new.self c.loop-index.index c.args.n r
          c.reserve_at.result c.reserve_at.ensures.ok c.reserve_at.ensures.err (c.loop-index.invariant.more r all);
      same = same_after _ _ _ c.loop-index.invariant.same same;
      count = same-length c.loop-index.self c.reserve_at.new.self same ∙ c.loop-index.invariant.count;
    }

pub returns-clause-room : goal.returns-clause-room
returns-clause-room g c = all_have_room c.loop-index.self.harts c.loop-index.index c.args.n (omega arith) c.loop-index.invariant.below
