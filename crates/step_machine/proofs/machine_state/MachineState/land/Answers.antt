use Rattle.std.proofs.Common.{◌∙◌, ap}
use Rattle.step_machine.specs.inner.Config.{Config, after_outcome}
use Rattle.step_machine.proofs.Fitting.{land_leaves}
use Rattle.step_machine.proofs.machine_state.MachineState.land.Goals as goal

pub returns-clause-after : goal.returns-clause-after
returns-clause-after g c =
    let held : Config = record { harts = c.self.inside.harts.items; stored = c.self.inside.stores } in
    land_leaves held c.land.new.self c.land.result _ c.args.hart c.is_over-over.result c.land.ensures.outcome c.land.ensures.after
    ∙ ap (λ (k : Config). after_outcome k c.land.result) c.self.view_is
