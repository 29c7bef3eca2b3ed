use Rattle.std.proofs.Common.{None, Some, sym, ap, ◌∙◌, arith}
use Rattle.std.specs.Prelude.{nat_le, if◌then◌else◌}
use Rattle.std.proofs.lemmas.Bool.{le-leb}
use Rattle.std.proofs.lemmas.Result.{on_ok_weaker}
use Rattle.ownership_runs.specs.declared.sent.ByteLog.{ByteLog}
use Rattle.ownership_runs.specs.inner.Logging.{of_byte, with_read}
use Rattle.ownership_runs.proofs.sent.note_read.Goals as goal
use Rattle.ownership_runs.proofs.sent.note_read.Goals.{then-over+in_ok-note, else-over}

pub returns : goal.returns
returns c =
    let from = c.args.from in
    let byte = c.args.byte in
    let old = of_byte (Some c.args.bytes.now) in
    elim c.if-over.branch [
      | then-over+in_ok-note w ↦ on_ok_weaker c.note-2.result
          (λ was k. was k
          ∙ ap (λ z. if nat_le from k then Some byte else z) (ap (λ (b : ByteLog). of_byte (Some b) k) w.bytes-is ∙ w.in_ok-note.ensures k
          ∙ ap (λ b. if b then None else old k) (le-leb 0 k (omega arith)))
          ∙ sym (ap (λ o. with_read from o byte (old k) k) w.if-over.true))
          c.note-2.ensures
      | else-over w ↦ on_ok_weaker c.note-2.result
          (λ was k. was k
          ∙ ap (λ z. if nat_le from k then Some byte else z) (ap (λ (b : ByteLog). of_byte (Some b) k) w.bytes-is)
          ∙ sym (ap (λ o. with_read from o byte (old k) k) w.if-over.false))
          c.note-2.ensures
    ]
