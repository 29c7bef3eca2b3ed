use Rattle.std.proofs.Common.{lit<, ◌∙◌}
use Rattle.poll_close.proofs.Delivering.{if_ok}
use Rattle.poll_close.proofs.Planning.{whole_over}
use Rattle.poll_close.proofs.Standing.{stands-receiver}
use Rattle.poll_close.proofs.plans.whole_reports_of.Goals as goal

pub reports-requires : goal.reports-requires
reports-requires g c = (lit< tt, stands-receiver g.K.RingKind.ring g.K.RingKind.meaning g.row.B g.row.M _ c.in_ok-plan_in.ensures.stands)

pub returns-clause-whole : goal.returns-clause-whole
returns-clause-whole g c =
    let plan = c.in_ok-plan_in.ensures in
    if_ok _ _
    (λ v is lists l events accepted run. whole_over g.K.RingKind.ring g.K.RingKind.meaning g.row.B g.row.M lists l events _ _ _ v.items
    c.laws.ensures.cleans run plan.ran plan.finishes plan.none plan.stands (is ∙ c.reports.ensures)) c.from_slice.result c.from_slice.ensures.items
