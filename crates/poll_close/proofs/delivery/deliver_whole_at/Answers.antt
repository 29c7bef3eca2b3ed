-- The opening that was made is the one that the clause names.
use Rattle.poll_close.proofs.Planning.{whole-as}
use Rattle.poll_close.proofs.delivery.deliver_whole_at.Goals as goal

pub returns-clause-whole : goal.returns-clause-whole
returns-clause-whole g c = whole-as g.row.B g.row.M _ _ _ _ _ c.in_ok-opening.ensures.value c.in_ok-whole_reports_after.ensures
