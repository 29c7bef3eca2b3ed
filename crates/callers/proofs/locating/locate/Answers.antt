use Rattle.std.proofs.Common.{rules, refl, sym, subst}
use Rattle.step_machine.specs.History.{OpeningValue}
use Rattle.spsc_queue.specs.Calls.{IsBlock}
use Rattle.callers.specs.Queues.{block_at, sends_by, receives_by, HasNoCopy, HasFirstCopy}
use Rattle.callers.proofs.Rest.{at_any, at_rest}
use Rattle.callers.proofs.locating.locate.Goals as goal

pub returns-in_default-clause-has_violation : goal.returns-in_default-clause-has_violation
returns-in_default-clause-has_violation g c = (
  (
    refl,
    refl,
    subst (λ (o : OpeningValue). HasNoCopy o c.args.queue.sender (sends_by c.args.queue.kind)) c.opening-opening.ensures.value
        (c.function_of.ensures.none (sends_by c.args.queue.kind) (sym c.send_words.ensures) c.in_default.is),
  ),
  (search rules, search rules),
)

pub returns-in_default-function_of-clause-has_violation : goal.returns-in_default-function_of-clause-has_violation
returns-in_default-function_of-clause-has_violation g c = (
  (
    refl,
    refl,
    subst (λ (o : OpeningValue). HasNoCopy o c.args.queue.receiver (receives_by c.args.queue.kind)) c.opening-opening.ensures.value
        (c.function_of-2.ensures.none (receives_by c.args.queue.kind) (sym c.receive_words.ensures) (c.in_default-function_of).is),
  ),
  (
    search rules,
    search rules,
    (
      c.in-Some.send_line,
      (subst (λ (o : OpeningValue). HasFirstCopy o c.args.queue.sender c.in-Some.send_line (sends_by c.args.queue.kind))
          c.opening-opening.ensures.value (c.in-Some.ensures.first (sends_by c.args.queue.kind) (sym c.send_words.ensures))).here,
    ),
  ),
)

pub returns-clause-located : goal.returns-clause-located
returns-clause-located g c = let block : IsBlock g.row.M (block_at c.args.queue 0 0) = search rules in
    let w = c.in_ok-waiting.ensures.waiting in
    record {
      queue_is = refl;
      block = at_any g.row.M c.args.queue 0 0 c.in_ok-waiting.waiting.start c.in_ok-waiting.waiting.count block;
      parties = search rules;
      start = w.among;
      waiting = w.count;
      rest = at_rest c.args.machine.now.history.opening
          (record {
            queue = c.args.queue;
            start = c.in_ok-waiting.waiting.start;
            waiting = c.in_ok-waiting.waiting.count;
            send_line = c.in-Some.send_line;
            receive_line = c.in-Some-function_of.receive_line;
          })
          w.among w.start w.count w.head w.tail c.in_ok-opens_as_owed.ensures.copy c.in_ok-opens_as_owed.ensures.slots;
      sends = subst (λ (o : OpeningValue). HasFirstCopy o c.args.queue.sender c.in-Some.send_line (sends_by c.args.queue.kind))
          c.opening-opening.ensures.value (c.in-Some.ensures.first (sends_by c.args.queue.kind) (sym c.send_words.ensures));
      receives = subst (λ (o : OpeningValue). HasFirstCopy o c.args.queue.receiver (c.in-Some-function_of).receive_line (receives_by c.args.queue.kind))
          c.opening-opening.ensures.value
          ((c.in-Some-function_of).ensures.first (receives_by c.args.queue.kind) (sym c.receive_words.ensures));
    }
