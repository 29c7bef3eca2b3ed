use Rattle.std.proofs.Common.{sym, ◌∙◌, arith}
use Rattle.std.specs.String.{string_bytes}
use Rattle.texts.proofs.RunLaws.{write-start, turn-same, turn-other, turns-end}
use Rattle.std.proofs.lemmas.List.Elements.{All-nil}
use Rattle.recorder.specs.{OutcomeHasWords, Step, is_same_step, record_line}
use Rattle.recorder.proofs.RecordLaws.{decides_steps, lines_text, line_first, lines-none, one_line, words-more, no_step, all_words}
use Rattle.recorder.proofs.records.lines.Goals as goal
use Rattle.recorder.proofs.records.lines.Goals.{then-goes_on, else-goes_on+in_ok-push_record_line}

pub returns-in_default : goal.returns-in_default
returns-in_default c =
    let none = sym c.in_default.ensures.value in
    record { lines = c.new-text.ensures.bytes ∙ sym (lines-none c.args.steps.now none); words = no_step c.args.steps.now none }

pub loop-next-init : goal.loop-next-init
loop-next-init c = record {
  few = omega arith;
  words = All-nil (λ (step : Step). OutcomeHasWords step.1);
  so_far = rw c.new-text.ensures.bytes
      (write-start is_same_step decides_steps lines_text record_line line_first c.in-Some.first.now c.args.steps.now
      (sym c.in-Some.ensures.value));
}

pub loop-next-preserved : goal.loop-next-preserved
loop-next-preserved c =
    elim c.if-goes_on.branch [
      | then-goes_on w ↦ record {
        few = omega arith;
        words = words-more c.args.steps.now c.loop-next.next-index _ c.loop-next-test.true c.loop-next.invariant.words c.numbers_are_words.ensures;
        so_far = rw (w.text-is, w.step-is, w.times-is)
            (turn-same is_same_step decides_steps lines_text record_line line_first c.loop-next.step _ c.loop-next.times
            c.loop-next.next-index c.args.steps.now (string_bytes c.loop-next.text) _ c.loop-next-test.true
            (sym c.are_same-goes_on.ensures ∙ w.if-goes_on.true) c.loop-next.invariant.so_far);
      }
      | else-goes_on+in_ok-push_record_line w ↦ record {
        few = omega arith;
        words = words-more c.args.steps.now c.loop-next.next-index _ c.loop-next-test.true c.loop-next.invariant.words c.numbers_are_words.ensures;
        so_far = rw (w.text-is, w.step-is, w.times-is)
            (turn-other is_same_step decides_steps lines_text record_line line_first c.loop-next.step _
            c.loop-next.times c.loop-next.next-index c.args.steps.now (string_bytes c.loop-next.text) _ _
            c.loop-next-test.true (sym c.are_same-goes_on.ensures ∙ w.if-goes_on.false) c.loop-next.invariant.so_far
            w.in_ok-push_record_line.ensures);
      }
    ]

pub returns-clause-words : goal.returns-clause-words
returns-clause-words c = all_words c.args.steps.now c.loop-next.next-index c.loop-next-test.false c.loop-next.invariant.words

pub returns-clause-lines : goal.returns-clause-lines
returns-clause-lines c = turns-end is_same_step decides_steps lines_text record_line line_first c.loop-next.step
    c.loop-next.times c.loop-next.next-index c.args.steps.now (string_bytes c.loop-next.text) _ _ c.loop-next-test.false
    c.loop-next.invariant.so_far
    (one_line (string_bytes c.loop-next.text) (c.loop-next.step, c.loop-next.times) _ c.in_ok-push_record_line-2.ensures)
