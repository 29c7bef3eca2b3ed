use Rattle.std.proofs.Common.{◌∙◌}
use Rattle.step_machine.specs.Positions.{position_of}
use Rattle.litmus.specs.Verdicts.{value_there}
use Rattle.litmus.proofs.RunLaws.{all_done-skips, all_done-next}
use Rattle.litmus.proofs.judging.run_steps.Goals as goal
use Rattle.litmus.proofs.judging.run_steps.Goals.{then-skip-gt0, else-skip-gt0}

pub loop-step-preserved : goal.loop-step-preserved
loop-step-preserved g c =
    let value_of = value_there (position_of c.args.machine.now) in
    elim c.if-skip-gt0.branch [
      | then-skip-gt0 w ↦ rw (w.so_far-is, w.skip-is)
          (all_done-skips value_of c.loop-step.so_far c.loop-step.skip c.loop-step.step-index
          c.args.steps.now w.if-skip-gt0.true c.loop-step-test.true ∙ c.loop-step.invariant)
      | else-skip-gt0 w ↦ all_done-next value_of c.loop-step.so_far c.if-skip-gt0.so_far
          c.loop-step.skip c.if-skip-gt0.skip c.loop-step.step-index c.args.steps.now _ w.after_step.result
          c.loop-step-test.true w.if-skip-gt0.false w.after_step.ensures w.so_far-is w.skip-is
          ∙ c.loop-step.invariant
    ]
