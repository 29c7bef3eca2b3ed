use Rattle.std.proofs.Common.{◌∙◌, subst, sym, List, All, lit<, true, ap, length}
use Rattle.litmus.specs.{Step, AsksThere, all_done, value_there}
use Rattle.step_machine.specs.Positions.{position_of}
use Rattle.litmus.proofs.RunLaws.{all_done-condition, AsksThere-steps_of}
use Rattle.litmus.proofs.judging.is_true.Goals as goal

pub run_steps-requires : goal.run_steps-requires
run_steps-requires g c = (
  lit< tt,
  subst (λ (steps : List Step). All (AsksThere (length c.args.machine.now.harts) g.row.M) steps)
      (sym c.steps.ensures)
      (AsksThere-steps_of (length c.args.machine.now.harts) g.row.M c.args.condition.now c.requires),
)

pub returns : goal.returns
returns g c =
    c.run_steps.ensures
    ∙ ap (λ (steps : List Step). all_done (value_there (position_of c.args.machine.now)) true 0 steps) c.steps.ensures
    ∙ all_done-condition (value_there (position_of c.args.machine.now)) c.args.condition.now
