use Rattle.std.proofs.Common.{length, sym, ap, ◌∙◌}
use Rattle.step_machine.specs.Paths.{state_of}
use Rattle.engine_support.specs.StateText.{hart_text, hart_shown}
use Rattle.engine_support.proofs.StateLines.{hart_text-is}
use Rattle.engine_support.proofs.state_text.hart_lines.Goals as goal

pub returns : goal.returns
unfolding hart_shown
returns g c = λ t stands.
    let count = length c.pending-pending.result.now in
    let pending = ap (λ n. hart_text c.args.hart (state_of g.row.M t c.args.hart) n) (ap length (sym (c.pending-pending.ensures.history t stands))) in
    let text = hart_text-is c.args.hart count c.pc.result c.status.result (state_of g.row.M t c.args.hart)
    (c.status.ensures.history t stands) (c.pc.ensures.history t stands) in
    rw (c.in_ok-push_registers.ensures t stands, c.in_ok-push_hart_line.ensures, c.new-lines.ensures.bytes) (sym (pending ∙ text))
