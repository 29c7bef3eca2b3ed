use Rattle.std.proofs.Common.{ap, Ok}
use Rattle.shrink.proofs.PartLaws.{part_of_part}
use Rattle.shrink.proofs.PassLaws.{single_events}
use Rattle.shrink.proofs.passes.leave_out.Goals as goal

pub loop-went-preserved : goal.loop-went-preserved
loop-went-preserved g c = record {
  stands = c.in_ok-went.ensures.stands;
  holds = c.leave_out_pieces.ensures.holds;
  part = part_of_part _ _ _ c.leave_out_pieces.ensures.part c.loop-went.invariant.part;
  minimal = λ none. single_events (g.Q.Question.holds c.args.question.now)
      c.leave_out_pieces.new.events.items (c.in_ok-went.ensures.none_can (ap (λ went. Ok went) none));
}
