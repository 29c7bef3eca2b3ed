-- A machine opens for threads, and what they give is said of its opening.
use Rattle.std.proofs.Common.{List, lit<, sym, ◌∙◌, ap, subst}
use Rattle.std.proofs.lemmas.Result.{err_from_is_err_and}
use Rattle.step_machine.specs.History.{OpeningValue}
use Rattle.hart_threads.specs.{SeatView, seats_of, IsRecord, Fails}
use Rattle.hart_threads.proofs.Fresh.{fresh_opens, fresh_few, fresh_get_on}
use Rattle.hart_threads.proofs.channels.record_over.Goals as goal

pub open-requires : goal.open-requires
open-requires g c =
    (lit< tt, (lit< tt, (c.requires.some_capacity, (c.requires.capacity, (c.requires.some_word, (c.requires.memory, c.requires.fits))))))

pub returns-in_err-record-clause-fault : goal.returns-in_err-record-clause-fault
returns-in_err-record-clause-fault g c =
    let p = err_from_is_err_and c.from_residual-in_err-record.result c.from_residual-in_err-record.ensures.1 in
    rw (p.1, p.2)
    (subst (λ (o : OpeningValue). Fails g.row.B g.row.M c.args.turns o (seats_of g.row.M o) c.in_err-record.field-0.0) c.in_ok-shared.ensures.opening
    (subst (λ (seats : List SeatView). Fails g.row.B g.row.M c.args.turns c.in_ok-shared.shared seats c.in_err-record.field-0.0)
    (c.in_ok-shared.ensures.seats ∙ ap (seats_of g.row.M) (sym c.in_ok-shared.ensures.opening))
    c.in_err-record.ensures.fault))

pub returns-clause-record : goal.returns-clause-record
returns-clause-record g c =
    subst (λ (o : OpeningValue). IsRecord g.row.B g.row.M o c.in_ok-record.record) c.in_ok-shared.ensures.opening c.in_ok-record.ensures.record

pub returns-clause-few : goal.returns-clause-few
returns-clause-few g c =
    fresh_few c.args.turns g.row.M c.in_ok-shared.shared _ c.in_ok-record.record.trace
    (c.in_ok-shared.ensures.seats ∙ ap (seats_of g.row.M) (sym c.in_ok-shared.ensures.opening))
    c.in_ok-record.ensures.record.opening c.in_ok-record.ensures.merge

pub returns-clause-gets_on : goal.returns-clause-gets_on
returns-clause-gets_on g c unheld =
    let seats = c.in_ok-shared.ensures.seats ∙ ap (seats_of g.row.M) (sym c.in_ok-shared.ensures.opening) in
    fresh_get_on c.args.turns g.row.M c.in_ok-shared.shared _ c.in_ok-record.record.trace seats c.in_ok-record.ensures.record.opening
    (c.in_ok-record.ensures.gets_on unheld (fresh_opens g.row.M c.in_ok-shared.shared _ seats))
