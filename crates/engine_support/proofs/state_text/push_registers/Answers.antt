use Rattle.step_machine.specs.Paths.{state_of}
use Rattle.engine_support.proofs.OutcomeLaws.{none_added, one_added}
use Rattle.engine_support.proofs.StateLines.{registers_shown-none, registers_shown-more}
use Rattle.engine_support.proofs.state_text.push_registers.Goals as goal

pub loop-number-init : goal.loop-number-init
loop-number-init g c = λ t stands. none_added _ _ (registers_shown-none (state_of g.row.M t c.args.hart))

pub loop-number-preserved : goal.loop-number-preserved
loop-number-preserved g c = λ t stands.
    (one_added _ _ _ _ _ _ (c.loop-number.invariant t stands) c.in_ok-push_register_line.ensures
    (registers_shown-more (state_of g.row.M t c.args.hart) c.loop-number.number c.register.result (c.register.ensures.history t stands)))
