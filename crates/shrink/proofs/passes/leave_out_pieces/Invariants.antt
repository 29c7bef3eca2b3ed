use Rattle.std.proofs.Common.{◌-◌, length}
use Rattle.shrink.proofs.PassLaws.{Passing}
use Rattle.shrink.proofs.passes.leave_out_pieces.Given as goal

abbrev pub invariant-loop-from : goal.invariant-loop-from
invariant-loop-from g l = record {
  stands : g.Q.Question.stands l.question l.bench;
  pass : Passing (g.Q.Question.holds l.question) l.fn.events.items l.events.items l.size l.from l.went;
}

abbrev pub decreases-loop-from : goal.decreases-loop-from
decreases-loop-from g l = length l.events.items - l.from
