use Rattle.std.proofs.Common.{◌++◌, [], ◌∷◌, sym, ap, ◌∙◌, append_assoc, arith}
use Rattle.std.specs.String.{string_bytes}
use Rattle.texts.proofs.RunLaws.{write-start, turn-same, turn-other, turns-end}
use Rattle.recorder.specs.Writing.{is_same, repetition_text, tokens_text, schedule_tokens}
use Rattle.recorder.proofs.Runs.{decides, token_before, before_others, tokens-none}
use Rattle.recorder.proofs.writing.tokens.Goals as goal
use Rattle.recorder.proofs.writing.tokens.Goals.{then-goes_on, else-goes_on+in_ok-push_token+in_ok-push_str}

pub returns-in_default : goal.returns-in_default
returns-in_default c = c.new-text.ensures.bytes ∙ sym (tokens-none c.args.events.now (sym c.in_default.ensures.value))

pub loop-next-init : goal.loop-next-init
unfolding schedule_tokens
loop-next-init c = record {
  few = omega arith;
  so_far = rw c.new-text.ensures.bytes
      (write-start is_same decides tokens_text token_before before_others c.in-Some.first.now c.args.events.now
      (sym c.in-Some.ensures.value));
}

pub loop-next-preserved : goal.loop-next-preserved
loop-next-preserved c =
    elim c.if-goes_on.branch [
      | then-goes_on w ↦ record {
        few = omega arith;
        so_far = rw (w.text-is, w.event-is, w.times-is)
            (turn-same is_same decides tokens_text token_before before_others c.loop-next.event _ c.loop-next.times
            c.loop-next.next-index c.args.events.now (string_bytes c.loop-next.text) _ c.loop-next-test.true
            (sym c.are_same-goes_on.ensures ∙ w.if-goes_on.true) c.loop-next.invariant.so_far);
      }
      | else-goes_on+in_ok-push_token+in_ok-push_str w ↦ record {
        few = omega arith;
        so_far =
            let token = repetition_text (c.loop-next.event, c.loop-next.times) in
            let written = w.in_ok-push_str.ensures.bytes ∙ ap (λ front. front ++ 32 ∷ []) w.in_ok-push_token.ensures
            ∙ append_assoc (string_bytes c.loop-next.text) token (32 ∷ []) in
            rw (w.text-is, w.event-is, w.times-is)
            (turn-other is_same decides tokens_text token_before before_others c.loop-next.event _ c.loop-next.times
            c.loop-next.next-index c.args.events.now (string_bytes c.loop-next.text) _ _ c.loop-next-test.true
            (sym c.are_same-goes_on.ensures ∙ w.if-goes_on.false) c.loop-next.invariant.so_far written);
      }
    ]

pub returns : goal.returns
returns c = turns-end is_same decides tokens_text token_before before_others c.loop-next.event c.loop-next.times
    c.loop-next.next-index c.args.events.now (string_bytes c.loop-next.text) _ _ c.loop-next-test.false
    c.loop-next.invariant.so_far c.in_ok-push_token-2.ensures
