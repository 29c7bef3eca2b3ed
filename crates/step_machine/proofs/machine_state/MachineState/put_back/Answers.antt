-- The harts, the buffers and the words are those put back, which fit each other.
use Rattle.std.proofs.Common.{◌≡◌, ◌++◌, length, take, drop, arith, subst, sym}
use Rattle.std.proofs.lemmas.Grind.{common_steps}
use Rattle.step_machine.specs.inner.Config.{Config, Fit, restarted_config}
use Rattle.step_machine.proofs.Restarts.{fit_restarted}
use Rattle.step_machine.proofs.machine_state.MachineState.put_back.Goals as goal

pub invariant_of-self : goal.invariant_of-self
invariant_of-self g c =
    let held : Config = record { harts = c.self.inside.harts.items; stored = c.self.inside.stores } in
    let left : Config = record {
      harts = take c.self.inside.harts.len (c.restart_harts.new.harts ++ drop (length c.restart_harts.new.harts) c.self.inside.harts.items);
      stored = c.restart.new.self;
    } in
    let is : left ≡ restarted_config held = grind (arith, common_steps) in
    (c.self.invariant.0, subst (Fit g.row.M) (sym is) (fit_restarted g.row.M held c.self.invariant.1))
