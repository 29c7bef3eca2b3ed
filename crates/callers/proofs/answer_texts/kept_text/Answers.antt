use Rattle.std.proofs.Common.{ℕ, ◌++◌, List, ap, ◌∙◌}
use Rattle.std.specs.Prelude.{codes}
use Rattle.callers.specs.Answers.{calls_line, head_line, runs_unfinished_line}
use Rattle.callers.proofs.answer_texts.kept_text.Goals as goal

pub returns : goal.returns
returns c =
    let q = c.args.queue in
    let calls = c.args.counts.calls in
    c.in_ok-push_unfinished.ensures ∙ ap (λ (xs : List ℕ). xs ++ runs_unfinished_line c.args.counts.unfinished)
    (c.in_ok-push_calls-2.ensures ∙ ap (λ (xs : List ℕ). xs ++ calls_line q.receiver (codes "received") calls.received (codes "empty") calls.empty)
    (c.in_ok-push_calls.ensures ∙ ap (λ (xs : List ℕ). xs ++ calls_line q.sender (codes "sent") calls.sent (codes "full") calls.full)
    (c.in_ok-push_head.ensures ∙ ap (λ (xs : List ℕ). xs ++ head_line c.args.runs calls) c.new-out.ensures.bytes)))
