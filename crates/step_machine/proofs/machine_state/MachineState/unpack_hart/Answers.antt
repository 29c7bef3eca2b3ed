-- Only where the hart stands changes, not where it opened.
use Rattle.std.proofs.Common.{◌≡◌, List, sym, ap, ◌∙◌, map}
use Rattle.hart.specs.State.{HartView}
use Rattle.step_machine.specs.Names.{Stored, Config, beginning}
use Rattle.step_machine.proofs.PositionLaws.{firsts_put}
use Rattle.step_machine.proofs.machine_state.MachineState.unpack_hart.Goals as goal

pub returns-clause-opening : goal.returns-clause-opening
returns-clause-opening g c = record {
  harts = ap (λ (d : Config). map beginning d.harts) (sym c.self.view_is)
      ∙ sym (firsts_put c.self.inside.harts.items c.args.hart c.index_mut.result.now c.take_hart-rest.new.hart c.index_mut.ensures.value
      (ap (λ (v : HartView). v.first) c.take_hart-rest.ensures.hart));
  first = ap (λ (d : Config). d.stored.first) (sym c.self.view_is) ∙ ap (λ (s : Stored). s.first) (sym c.unpack_buffer.ensures.value);
}
