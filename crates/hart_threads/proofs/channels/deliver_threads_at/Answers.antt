-- A channel that opens is one that the machine takes, and a record of it is one of its runs.
use Rattle.std.proofs.Common.{List, lit<, sym, subst}
use Rattle.std.proofs.lemmas.List.{length-map}
use Rattle.std.proofs.lemmas.Result.{err_from_is_err_and}
use Rattle.std.specs.Prelude.{map}
use Rattle.hart.specs.declared.need.Report.{Report}
use Rattle.step_machine.specs.History.{OpeningValue, FitsIn}
use Rattle.poll_close.specs.{layout_of, AllTouch, Clean}
use Rattle.hart_threads.specs.Records.{IsRecord}
use Rattle.hart_threads.proofs.Made.{run_of, channel_fails_at}
use Rattle.hart_threads.proofs.channels.deliver_threads_at.Goals as goal

pub record_over-requires-after_bounds : goal.record_over-requires-after_bounds
record_over-requires-after_bounds g c κs within =
    let fits : FitsIn g.row.M c.in_ok-opening.opening =
    subst (FitsIn g.row.M) (sym c.in_ok-opening.ensures.value)
    (c.laws_of_channels.ensures.fits g.row.M _ (layout_of c.args.place c.args.words.now) c.in_ok-opening.ensures.accepted) in
    (lit< tt, (c.requires.some_capacity, (c.requires.capacity, (c.requires.some_word, (c.requires.memory, fits)))))

pub returns-in_err-record_over-clause-fault : goal.returns-in_err-record_over-clause-fault
returns-in_err-record_over-clause-fault g c =
    let p = err_from_is_err_and c.from_residual-in_err-record_over.result c.from_residual-in_err-record_over.ensures.1 in
    rw (p.1, p.2)
    (channel_fails_at g.K.RingKind.ring g.row.B g.row.M c.args.turns (layout_of c.args.place c.args.words.now) _ c.in_ok-opening.opening
    c.in_err-record_over.field-0.0 c.in_ok-opening.ensures.value c.in_ok-opening.ensures.accepted
    c.in_err-record_over.ensures.fault)

pub returns-clause-record : goal.returns-clause-record
returns-clause-record g c =
    subst (λ (o : OpeningValue). IsRecord g.row.B g.row.M o c.in_ok-record_over.field-0.0) c.in_ok-opening.ensures.value
    c.in_ok-record_over.ensures.record

pub returns-clause-clean : goal.returns-clause-clean
returns-clause-clean g c =
    subst (λ (rs : List Report). Clean rs (map (λ v. v.items) c.args.lists.now)) (sym c.in_ok-record_over.ensures.reports)
    (c.laws_of_channels.ensures.clean g.row.B g.row.M _ (layout_of c.args.place c.args.words.now)
    c.in_ok-record_over.field-0.0.events.items c.in_ok-record_over.field-0.0.trace c.in_ok-opening.ensures.accepted
    (run_of g.row.B g.row.M c.in_ok-opening.opening _ c.in_ok-record_over.field-0.0 c.in_ok-opening.ensures.value
    c.in_ok-record_over.ensures.record))

pub returns-clause-goes : goal.returns-clause-goes
returns-clause-goes g c =
    c.laws_of_channels.ensures.goes g.row.B g.row.M _ (layout_of c.args.place c.args.words.now)
    c.in_ok-record_over.field-0.0.events.items c.in_ok-record_over.field-0.0.trace c.in_ok-opening.ensures.accepted
    (run_of g.row.B g.row.M c.in_ok-opening.opening _ c.in_ok-record_over.field-0.0 c.in_ok-opening.ensures.value
    c.in_ok-record_over.ensures.record)

pub returns-clause-touches : goal.returns-clause-touches
returns-clause-touches g c =
    subst (λ n. AllTouch (layout_of c.args.place c.args.words.now) n c.in_ok-record_over.field-0.0.trace.entries)
    (length-map c.args.lists.now _)
    (c.laws_of_channels.ensures.touches g.row.B g.row.M _ (layout_of c.args.place c.args.words.now)
    c.in_ok-record_over.field-0.0.events.items c.in_ok-record_over.field-0.0.trace c.in_ok-opening.ensures.accepted
    (run_of g.row.B g.row.M c.in_ok-opening.opening _ c.in_ok-record_over.field-0.0 c.in_ok-opening.ensures.value
    c.in_ok-record_over.ensures.record))
