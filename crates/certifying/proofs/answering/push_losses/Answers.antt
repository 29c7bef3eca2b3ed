use Rattle.std.proofs.Common.{sym, ◌∙◌}
use Rattle.certifying.proofs.AnswerLaws.{unread-inside}
use Rattle.certifying.proofs.DrawnLaws.{all-sized}
use Rattle.certifying.proofs.answering.push_losses.Goals as goal

pub lost_of-requires-clause-some_slot : goal.lost_of-requires-clause-some_slot
lost_of-requires-clause-some_slot g c κs within =
    let o = c.args.opening.now in
    let listed = c.args.certificate.now in
    let unread = c.in-Some.unread in
    all-sized o listed c.requires.accepted unread.queue (unread-inside o listed unread (sym c.in_ok-unread.ensures ∙ c.in-Some.is))
