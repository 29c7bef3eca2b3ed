use Rattle.std.proofs.Common.{refl, ◌∙◌, arith}
use Rattle.poll_close.proofs.Delivering.{delivers, if_ok}
use Rattle.poll_close.proofs.Standing.{stands-receiver}
use Rattle.poll_close.proofs.delivery.reports_of.Goals as goal

pub reports-requires : goal.reports-requires
reports-requires g c =
    let known = c.requires.stands in
    omega (arith, known.1.count, stands-receiver g.K.RingKind.ring g.K.RingKind.meaning g.row.B g.row.M known.0 known.2)

pub returns : goal.returns
returns g c =
    if_ok _ _
    (λ v is t at lists l events accepted run. delivers g.K.RingKind.ring g.K.RingKind.meaning g.row.B g.row.M lists l events t _ v.items
    c.laws.ensures.opens c.laws.ensures.keeps c.laws.ensures.cleans accepted refl run (is ∙ c.reports.ensures t at))
    c.from_slice.result c.from_slice.ensures.items
