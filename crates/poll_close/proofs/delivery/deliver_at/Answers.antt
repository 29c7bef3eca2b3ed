-- The opening that was made is the one that the clause names.
use Rattle.poll_close.proofs.Delivering.{delivers-as}
use Rattle.poll_close.proofs.delivery.deliver_at.Goals as goal

pub returns-clause-delivers : goal.returns-clause-delivers
returns-clause-delivers g c = delivers-as g.row.B g.row.M _ _ _ _ _ c.in_ok-opening.ensures.value c.in_ok-reports_after.ensures
