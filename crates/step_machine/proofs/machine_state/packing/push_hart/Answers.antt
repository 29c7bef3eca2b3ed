use Rattle.std.proofs.Common.{◌∙◌, sym, ap, length}
use Rattle.std.proofs.lemmas.Result.{on_ok_weaker}
use Rattle.step_machine.specs.Positions.{IsSoundHart}
use Rattle.step_machine.proofs.machine_state.packing.push_hart.Goals as goal

pub returns-clause-sound : goal.returns-clause-sound
returns-clause-sound c =
    let sound : IsSoundHart c.args.hart.now = record {
      own = c.left.ensures.own;
      size = ap length (sym c.registers.ensures) ∙ c.count_changed.ensures.now;
      first_size = ap length (sym c.first_registers.ensures) ∙ c.count_changed.ensures.first;
    } in
    on_ok_weaker c.push_changed.result (λ pushed. sound) c.push_changed.ensures
