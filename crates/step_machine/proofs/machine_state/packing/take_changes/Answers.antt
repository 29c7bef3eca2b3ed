use Rattle.std.proofs.Common.{◌≡◌, ℕ, ◌+◌, ◌-◌, suc, List, drop, sym, ◌∙◌, ap, arith}
use Rattle.std.specs.Prelude.{slice_index, slice_set}
use Rattle.step_machine.specs.Positions.{unpacked_changes}
use Rattle.step_machine.proofs.TakingLaws.{changes_step}
use Rattle.step_machine.proofs.machine_state.packing.take_changes.Goals as goal

pub loop-preserved : goal.loop-preserved
loop-preserved c =
    let one : c.args.count - c.loop.counter ≡ suc (c.args.count - (c.loop.counter + 1)) = omega arith in
    let word : c.first_word-word.result ≡ slice_index (drop 1 c.loop.rest.now) 0 =
    c.first_word-word.ensures ∙ ap (λ (ws : List ℕ). slice_index ws 0) c.words_after.ensures in
    let registers : c.set_register.new.registers ≡ slice_set c.loop.registers (slice_index c.loop.rest.now 0) (slice_index (drop 1 c.loop.rest.now) 0) =
    c.set_register.ensures ∙ (λ k. slice_set c.loop.registers (c.first_word-number.ensures k) (word k)) in
    c.loop.invariant ∙ changes_step (c.args.count - c.loop.counter) (c.args.count - (c.loop.counter + 1)) c.loop.registers c.loop.rest.now one
    ∙ sym (λ k. unpacked_changes (c.args.count - (c.loop.counter + 1)) (registers k) (c.words_after-rest.ensures k))
