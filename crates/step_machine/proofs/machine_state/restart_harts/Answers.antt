use Rattle.std.proofs.Common.{◌<◌, length, set, sym, ap, ◌∙◌, arith}
use Rattle.std.proofs.lemmas.List.Edits.{map_over_more}
use Rattle.hart.specs.{HartView, restarted}
use Rattle.step_machine.proofs.machine_state.restart_harts.Goals as goal

pub loop-hart-preserved : goal.loop-hart-preserved
loop-hart-preserved c =
    let within : c.loop-hart.hart-index < length c.args.harts.now = omega arith in
    ap (set c.loop-hart.harts c.loop-hart.hart-index) c.restart.ensures
    ∙ ap (λ (x : HartView). set c.loop-hart.harts c.loop-hart.hart-index (restarted x)) (sym c.hart-item.is)
    ∙ map_over_more restarted c.args.harts.now c.loop-hart.harts c.loop-hart.hart-index c.hart-item.result within c.loop-hart.invariant c.hart-item.is
