use Rattle.std.proofs.Common.{ℕ, ◌+◌, length, get_or, sym, ◌∙◌, ap, arith}
use Rattle.std.proofs.lemmas.List.{length_push}
use Rattle.step_machine.specs.Positions.{changed}
use Rattle.step_machine.proofs.TakingLaws.{changed-same, changed-other, none_changed}
use Rattle.step_machine.proofs.machine_state.packing.count_changed.Goals as goal
use Rattle.step_machine.proofs.machine_state.packing.count_changed.Goals.{then-first-number, else-first-number}

pub loop-number-init : goal.loop-number-init
loop-number-init c = (sym (ap length (none_changed c.args.first.now c.args.now.now)), omega arith)

pub loop-number-preserved : goal.loop-number-preserved
loop-number-preserved c =
    let first = c.args.first.now in
    let now = c.args.now.now in
    let n = c.loop-number.number in
    elim c.if-first-number.branch [
      | then-first-number w ↦ let more = changed-other first now n w.if-first-number.true in (
        w.count-is ∙ ap (λ (k : ℕ). k + 1) c.loop-number.invariant.0
            ∙ sym (ap length more ∙ length_push (changed first now n) (n, get_or now n 0)),
        omega arith,
      )
      | else-first-number w ↦ let more = changed-same first now n w.if-first-number.false in
          (w.count-is ∙ c.loop-number.invariant.0 ∙ sym (ap length more), omega arith)
    ]
