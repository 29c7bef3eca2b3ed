use Rattle.std.proofs.Common.{◌<◌, length, set, ap, ◌∙◌, arith}
use Rattle.std.proofs.lemmas.List.Edits.{map_over_more}
use Rattle.step_machine.specs.inner.Stored.{no_stores}
use Rattle.step_machine.proofs.stores.clear_buffers.Goals as goal

pub loop-buffer-preserved : goal.loop-buffer-preserved
loop-buffer-preserved g c =
    let within : c.loop-buffer.buffer-index < length c.args.buffers.now = omega arith in
    ap (set c.loop-buffer.buffers c.loop-buffer.buffer-index) c.clear.ensures
    ∙ map_over_more no_stores c.args.buffers.now c.loop-buffer.buffers c.loop-buffer.buffer-index
    c.buffer-item.result within c.loop-buffer.invariant c.buffer-item.is
