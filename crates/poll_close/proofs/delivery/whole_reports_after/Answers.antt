use Rattle.std.proofs.Common.{lit<, sym, subst}
use Rattle.step_machine.specs.Names.{OpeningValue, History, FitsIn, Run, RunFrom}
use Rattle.poll_close.proofs.Delivering.{if_ok}
use Rattle.poll_close.proofs.Planning.{whole-as}
use Rattle.poll_close.proofs.delivery.whole_reports_after.Goals as goal

pub open-requires : goal.open-requires
open-requires g c =
    let fits = subst (FitsIn g.row.M) (sym c.requires.opens.2) (c.laws_of_channels.ensures.fits g.row.M _ _ c.requires.opens.1) in
    (lit< tt, (c.requires.some_capacity, (c.requires.capacity, (c.requires.some_word, (c.requires.memory, fits)))))

pub whole_reports_of-requires : goal.whole_reports_of-requires
whole_reports_of-requires g c =
    let run = subst (λ (t : History). RunFrom g.row.B g.row.M t c.args.events.now c.run.new.self.history) c.in_ok-machine.ensures c.in-Ok.ensures.ok in
    let stands = c.laws_of_channels.ensures.stands g.row.B g.row.M _ _ c.args.events.now _ c.requires.opens.1
    (subst (λ (o : OpeningValue). Run g.row.B g.row.M o c.args.events.now c.run.new.self.history) c.requires.opens.2 run) in
    (lit< tt, (c.requires.some_capacity, stands))

pub returns : goal.returns
returns g c =
    let run = subst (λ (t : History). RunFrom g.row.B g.row.M t c.args.events.now c.run.new.self.history) c.in_ok-machine.ensures c.in-Ok.ensures.ok in
    if_ok _ _
    (λ r holds. whole-as g.row.B g.row.M _ _ _ _ r.items (sym c.requires.opens.2)
    (holds _ c.requires.opens.0 c.args.events.now c.requires.opens.1
    (subst (λ (o : OpeningValue). Run g.row.B g.row.M o c.args.events.now c.run.new.self.history) c.requires.opens.2 run)))
    c.whole_reports_of.result c.whole_reports_of.ensures.whole
