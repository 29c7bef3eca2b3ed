use Rattle.std.proofs.Common.{◌++◌, [], ◌∷◌, sym, ap, ◌∙◌, length}
use Rattle.std.proofs.lemmas.Bool.{eqb-true, eqb-false}
use Rattle.recorder.specs.Writing.{schedule_tokens}
use Rattle.recorder.proofs.RoundTrip.{canon-none, canon-some}
use Rattle.recorder.proofs.writing.schedule_text.Goals as goal
use Rattle.recorder.proofs.writing.schedule_text.Goals.{then-not-is_empty+in_ok-push_tokens+in_ok-push_str-2, else-not-is_empty}

pub returns : goal.returns
returns c =
    let first = c.in_ok-push_str.ensures.bytes ∙ ap (λ front. front ++ 10 ∷ []) c.in_ok-text.ensures.ok in
    elim c.if-not-is_empty.branch [
      | then-not-is_empty+in_ok-push_tokens+in_ok-push_str-2 w ↦
          (let some = eqb-false (length c.args.events.now) 0 (sym c.is_empty.ensures ∙ w.if-not-is_empty.true) in
          let tokens = w.in_ok-push_tokens.ensures.pushed ∙ ap (λ front. front ++ schedule_tokens c.args.events.now) first in
          rw w.text-is (w.in_ok-push_str-2.ensures.bytes ∙ ap (λ front. front ++ 10 ∷ []) tokens ∙ sym (canon-some c.args.events.now some)))
      | else-not-is_empty w ↦
          (let none = eqb-true (length c.args.events.now) 0 (sym c.is_empty.ensures ∙ w.if-not-is_empty.false) in
          rw w.text-is (first ∙ sym (canon-none c.args.events.now none)))
    ]
