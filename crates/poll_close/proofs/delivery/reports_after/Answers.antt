use Rattle.std.proofs.Common.{lit<, sym, subst, ap}
use Rattle.step_machine.specs.Names.{OpeningValue, at_opening, Run}
use Rattle.poll_close.proofs.Delivering.{channel-fits, delivers-as, if_ok}
use Rattle.poll_close.proofs.Standing.{stands-opens, stands-run}
use Rattle.poll_close.proofs.delivery.reports_after.Goals as goal

pub open-requires : goal.open-requires
open-requires g c =
    let fits = channel-fits g.K.RingKind.ring g.row.M _ _ _ c.laws.ensures.short c.requires.opens.1 c.requires.opens.2 in
    (lit< tt, (c.requires.capacity, (c.requires.memory, fits)))

pub reports_of-requires : goal.reports_of-requires
reports_of-requires g c =
    let ran = c.in-Ok.ensures.ok (at_opening c.args.opening.now) c.in_ok-machine.ensures in (
      lit< tt,
      (
        ran.0,
        ran.2,
        stands-run g.K.RingKind.ring g.K.RingKind.meaning g.row.B g.row.M _ _ ran.0 c.laws.ensures.keeps
            (stands-opens g.K.RingKind.ring g.K.RingKind.meaning g.row.B g.row.M _ _ _ c.laws.ensures.opens
            c.requires.opens.1 (ap at_opening c.requires.opens.2)) ran.1,
      ),
    )

pub returns : goal.returns
returns g c =
    let ran = c.in-Ok.ensures.ok (at_opening c.args.opening.now) c.in_ok-machine.ensures in
    let is = c.requires.opens.2 in
    if_ok _ _
    (λ r holds. delivers-as g.row.B g.row.M _ _ _ _ r.items (sym is) (holds ran.0 ran.2 _ c.requires.opens.0 c.args.events.now c.requires.opens.1
    (subst (λ (o : OpeningValue). Run g.row.B g.row.M o c.args.events.now ran.0) is ran.1))) c.reports_of.result c.reports_of.ensures
