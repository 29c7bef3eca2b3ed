use Rattle.std.proofs.Common.{◌≡◌, arith}
use Rattle.std.proofs.lemmas.Grind.{common_steps}
use Rattle.step_machine.specs.inner.Config.{Config, opened_config}
use Rattle.step_machine.proofs.Opens.{fit_held}
use Rattle.step_machine.proofs.machine_state.MachineState.opened.Goals as goal

pub invariant_of-result : goal.invariant_of-result
invariant_of-result g c =
    let held : Config = record { harts = c.in_ok-harts.harts.items; stored = c.in_ok-stores.stores } in
    let is : held ≡ opened_config g.row.M c.args.opening.now = grind (arith, common_steps) in
    (c.requires.capacity, fit_held g.row.M c.args.opening.now held c.requires.fits is)
