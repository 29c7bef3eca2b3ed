use Rattle.std.proofs.Common.{◌∙◌, ap}
use Rattle.queue_certificates.specs.States.{KnownValue, plain, is_within_plain}
use Rattle.known_values.specs.Queues.{queue_in}
use Rattle.known_values.proofs.values.is_within.Goals as goal

pub returns : goal.returns
returns c = c.is_within_plain.ensures c.args.ranges.now
    ∙ ap (λ (v : KnownValue). is_within_plain (queue_in c.args.queues.now) c.args.ranges.now v c.in_ok-right.right) c.in_ok-left.ensures
    ∙ ap (λ (w : KnownValue). is_within_plain (queue_in c.args.queues.now) c.args.ranges.now
    (plain (queue_in c.args.queues.now) c.args.ranges.now c.args.left.now) w) c.in_ok-right.ensures
