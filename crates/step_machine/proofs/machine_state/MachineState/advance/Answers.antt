-- The hart in its place has stepped, and all else stays.
use Rattle.std.proofs.Common.{◌<◌, length, sym, subst}
use Rattle.std.specs.Prelude.{unwrap_or}
use Rattle.step_machine.specs.inner.Config.{Config}
use Rattle.step_machine.proofs.Fitting.{fit_stepped}
use Rattle.step_machine.proofs.machine_state.MachineState.advance.Goals as goal

pub invariant_of-self : goal.invariant_of-self
invariant_of-self g c =
    let held : Config = record { harts = c.self.inside.harts.items; stored = c.self.inside.stores } in
    let within : c.args.hart < length c.self.inside.harts.items =
    subst (λ (k : Config). c.args.hart < length k.harts) (sym c.self.view_is) c.requires.within in (
      c.self.invariant.0,
      fit_stepped g.row.M held c.args.hart (unwrap_or c.args.value 0) c.index_mut.result.now c.meet.new.self within
          c.index_mut.ensures.value c.meet.ensures c.self.invariant.1,
    )
