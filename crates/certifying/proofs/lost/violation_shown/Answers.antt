use Rattle.queue_parties.specs.Parties.{all_at}
use Rattle.certifying.specs.Queues.{any_queue, any_start}
use Rattle.certifying.proofs.lost.violation_shown.Goals as goal

-- the steps have a violation before the loss
pub returns : goal.returns
returns g c =
    let listed = c.args.certificate.now in
    let lost = c.args.lost.now in
    let both = c.laws_of_judged_runs.ensures.both g.row.B g.row.M c.args.opening.now (any_queue listed c.args.index)
    (all_at (any_start listed c.args.index)) lost.part.items lost.loss lost.steps.items c.requires.lost.told.shown.has c.requires.lost.are_steps in
    let some = both.first in
    let none = c.in-None.is in
    let found = c.first_violation.ensures in
    let queue = c.any_queue.ensures in
    let start = c.counts_at-start.ensures in
    let count = c.any_start.ensures in
    let entries = c.deref-2.ensures.value in
    let are = c.in_ok-entries.ensures in
    let steps = c.deref.ensures.value in
    absurd (cc)
