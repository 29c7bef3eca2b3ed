use Rattle.std.proofs.Common.{ℕ, [], true, false, lit<, map, Ok, sym, subst}
use Rattle.std.specs.Global.{Vec}
use Rattle.hart.specs.declared.need.Report.{Report}
use Rattle.step_machine.specs.History.{FitsIn, History, HistoryWithRoom, OpeningValue}
use Rattle.recorder.specs.Versions.{events_of_schedule, schedule_value}
use Rattle.poll_close.specs.Layout.{layout_of}
use Rattle.engine_support.specs.Runs.{Runs}
use Rattle.engine_support.proofs.RunLaws.{runs_events}
use Rattle.channel_engines.specs.inner.{Reports}
use Rattle.channel_engines.proofs.ChannelLaws.{differs_as, run_reported}
use Rattle.channel_engines.proofs.channel.reports_of_schedule.Goals as goal

pub machine_after-requires : goal.machine_after-requires
machine_after-requires g c =
    let fits = subst (λ (o : OpeningValue). FitsIn g.row.M o) (sym c.in-Ok.ensures.value)
    (c.laws_of_channels.ensures.fits g.row.M _ _ c.in-Ok.ensures.accepted) in
    (lit< tt, (c.requires.some_capacity, (c.requires.capacity, (c.requires.some_word, (c.requires.size, fits)))))

pub whole_reports_of-requires : goal.whole_reports_of-requires
whole_reports_of-requires g c =
    let parsed = schedule_value c.args.parsed in
    let t = c.in_ok-machine.machine.history in
    let ran = subst (λ (o : OpeningValue). Runs g.row.B g.row.M o parsed (Ok t)) c.in-Ok.ensures.value c.in_ok-machine.ensures in
    let stands = c.laws_of_channels.ensures.stands g.row.B g.row.M _ _ (events_of_schedule parsed) t c.in-Ok.ensures.accepted
    (runs_events g.row.B g.row.M _ parsed t ran) in
    (lit< tt, (c.requires.some_capacity, stands))

pub returns-in_ok-whole_reports_of : goal.returns-in_ok-whole_reports_of
returns-in_ok-whole_reports_of g c =
    let lists = map (λ (list : Vec ℕ). list.items) c.args.lists.now in
    let parsed = schedule_value c.args.parsed in
    rw c.if-finish.true
    (run_reported g.K.RingKind.ring g.row.B g.row.M (layout_of c.args.place []) parsed lists c.in-Ok.opening c.in-Ok.ensures.value c.in-Ok.ensures.accepted
    true c.in_ok-machine.machine.history _ c.in_ok-machine.ensures
    (λ run. c.in_ok-whole_reports_of.ensures.whole lists _ (events_of_schedule parsed) c.in-Ok.ensures.accepted run))

pub returns-in_err-machine : goal.returns-in_err-machine
returns-in_err-machine g c =
    let lists = map (λ (list : Vec ℕ). list.items) c.args.lists.now in
    let l = layout_of c.args.place [] in
    let parsed = schedule_value c.args.parsed in
    differs_as g.K.RingKind.ring g.row.B g.row.M l parsed lists c.in-Ok.opening c.in-Ok.ensures.value c.in-Ok.ensures.accepted
    (Reports g.K.RingKind.ring g.row.B g.row.M l c.args.finish parsed lists) (λ (machine : HistoryWithRoom). machine.history)
    (λ (reports : Vec Report). reports.items) c.from_residual.result c.in_err-machine.field-0.0 (λ r none. none) c.from_residual.ensures.1
    c.in_err-machine.ensures

pub state_after-requires : goal.state_after-requires
state_after-requires g c =
    let fits = subst (λ (o : OpeningValue). FitsIn g.row.M o) (sym c.in-Ok.ensures.value)
    (c.laws_of_channels.ensures.fits g.row.M _ _ c.in-Ok.ensures.accepted) in
    (lit< tt, (c.requires.capacity, (c.requires.size, fits)))

pub reports_of-requires : goal.reports_of-requires
reports_of-requires g c =
    let parsed = schedule_value c.args.parsed in
    let (t, ran, represents) = c.in_ok-machine-2.ensures in
    let here = subst (λ (o : OpeningValue). Runs g.row.B g.row.M o parsed (Ok t)) c.in-Ok.ensures.value ran in
    let stands = c.laws_of_channels.ensures.stands g.row.B g.row.M _ _ (events_of_schedule parsed) t c.in-Ok.ensures.accepted
    (runs_events g.row.B g.row.M _ parsed t here) in
    (lit< tt, (t, represents, stands))

pub returns-in_ok-reports_of : goal.returns-in_ok-reports_of
returns-in_ok-reports_of g c =
    let lists = map (λ (list : Vec ℕ). list.items) c.args.lists.now in
    let parsed = schedule_value c.args.parsed in
    let (t, ran, represents) = c.in_ok-machine-2.ensures in
    rw c.if-finish.false
    (run_reported g.K.RingKind.ring g.row.B g.row.M (layout_of c.args.place []) parsed lists c.in-Ok.opening c.in-Ok.ensures.value c.in-Ok.ensures.accepted
    false t _ ran (λ run. c.in_ok-reports_of.ensures t represents lists _ (events_of_schedule parsed) c.in-Ok.ensures.accepted run))

pub returns-in_err-machine-2 : goal.returns-in_err-machine-2
returns-in_err-machine-2 g c =
    let lists = map (λ (list : Vec ℕ). list.items) c.args.lists.now in
    let l = layout_of c.args.place [] in
    let parsed = schedule_value c.args.parsed in
    differs_as g.K.RingKind.ring g.row.B g.row.M l parsed lists c.in-Ok.opening c.in-Ok.ensures.value c.in-Ok.ensures.accepted
    (Reports g.K.RingKind.ring g.row.B g.row.M l c.args.finish parsed lists) (λ (t : History). t)
    (λ (reports : Vec Report). reports.items) c.from_residual-in_err-machine-2.result c.in_err-machine-2.field-0.0 (λ r none. none)
    c.from_residual-in_err-machine-2.ensures.1 c.in_err-machine-2.ensures
