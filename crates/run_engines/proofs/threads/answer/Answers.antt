use Rattle.std.proofs.Common.{◌∙◌, sym, ap}
use Rattle.hart_threads.specs.Seats.{seats_of}
use Rattle.hart_threads.proofs.Fresh.{fresh_few, fresh_get_on, fresh_opens}
use Rattle.run_engines.proofs.SeatsComplete.{threads_refused}
use Rattle.run_engines.proofs.threads.answer.Goals as goal

pub returns-in-Err : goal.returns-in-Err
returns-in-Err g c =
    let seats = c.in_ok-shared.ensures.seats ∙ ap (seats_of g.row.M) (sym c.in_ok-shared.ensures.opening) in
    rw c.threads_fault.ensures
    (threads_refused g.row.B g.row.M c.args.turns _ _ _ _ seats (c.in_ok-shared.ensures.opening ∙ c.in_ok-opening.ensures.copy) c.in-Err.ensures.fault)

pub returns-in-Ok : goal.returns-in-Ok
returns-in-Ok g c =
    let seats = c.in_ok-shared.ensures.seats ∙ ap (seats_of g.row.M) (sym c.in_ok-shared.ensures.opening) in
    c.record_text.ensures.given c.args.turns
    (fresh_few c.args.turns g.row.M c.in_ok-shared.shared _ c.in-Ok.record.trace seats c.in-Ok.ensures.record.opening c.in-Ok.ensures.merge)
    (fresh_get_on c.args.turns g.row.M c.in_ok-shared.shared _ c.in-Ok.record.trace seats c.in-Ok.ensures.record.opening
    (c.in-Ok.ensures.gets_on tt (fresh_opens g.row.M c.in_ok-shared.shared _ seats)))
