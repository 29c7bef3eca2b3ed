use Rattle.std.proofs.Common.{◌≡◌, ◌==◌, true, false, refl, eq-eqb}
use Rattle.std.proofs.lemmas.Bool.{ne_eqb}
use Rattle.spsc_queue.specs.Calls.{the_sender, the_receiver}
use Rattle.callers.proofs.judging.party_violation.Goals as goal

-- src/judging.rt:165:1
pub returns-then-hart-queue : goal.returns-then-hart-queue
returns-then-hart-queue c s is =
    let sends : (c.args.hart == c.args.located.queue.sender) ≡ true = eq-eqb c.args.hart c.args.located.queue.sender c.if-hart-queue.true in
    rw sends (c.entering_violation.ensures the_sender s is c.is_sendable.ensures)

-- src/judging.rt:165:1
pub returns-then-hart-queue-2 : goal.returns-then-hart-queue-2
returns-then-hart-queue-2 c s is =
    let other : (c.args.hart == c.args.located.queue.sender) ≡ false = ne_eqb c.args.hart c.args.located.queue.sender c.if-hart-queue.false in
    let receives : (c.args.hart == c.args.located.queue.receiver) ≡ true = eq-eqb c.args.hart c.args.located.queue.receiver c.if-hart-queue-2.true in
    rw (other, receives) (c.entering_violation-then-hart-queue-2.ensures the_receiver s is refl)
