use Rattle.std.proofs.Common.{◌++◌, [], ◌∷◌, ap, ◌∙◌}
use Rattle.std.specs.String.{string_bytes}
use Rattle.recorder.specs.Records.{record_head, record_text}
use Rattle.recorder.proofs.RecordLaws.{record_again}
use Rattle.recorder.proofs.records.write_record.Goals as goal

pub returns-clause-canonical : goal.returns-clause-canonical
unfolding record_text
returns-clause-canonical c =
    let first = c.in_ok-push_str.ensures.bytes ∙ ap (λ front. front ++ 10 ∷ []) c.in_ok-text.ensures.ok in
    c.in_ok-push_str-2.ensures.bytes ∙ ap (λ front. front ++ c.deref.result.now) first
    ∙ ap (λ rest. record_head ++ 10 ∷ rest) (c.deref.ensures ∙ c.in_ok-lines.ensures.lines)

pub returns-clause-again : goal.returns-clause-again
returns-clause-again c can few = record_again (string_bytes c.push_str-2.new.self) c.args.steps.now
    (returns-clause-canonical c) can c.in_ok-lines.ensures.words few
