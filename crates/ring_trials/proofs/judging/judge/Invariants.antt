use Rattle.std.proofs.Common.{◌≡◌, take, length}
use Rattle.ring_trials.specs.UserChannel.{lists_of}
use Rattle.ring_trials.specs.Trials.{IsChannelJudgedAt}
use Rattle.ring_trials.proofs.judging.judge.Given as goal

abbrev pub invariant-loop-event : goal.invariant-loop-event
invariant-loop-event g l = IsChannelJudgedAt g.row.B g.row.M l.channel (take l.event-index l.events) l.machine l.found l.shares
    × (length l.shares ≡ length (lists_of l.channel))
