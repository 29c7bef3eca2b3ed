use Rattle.std.proofs.Common.{◌<◌, length, set, sym, ◌∙◌, ap, arith}
use Rattle.step_machine.proofs.Changed.{by_none, changed_more, changed_all, all_others}
use Rattle.step_machine.proofs.stores.restore_buffers.Goals as goal

pub loop-index-init : goal.loop-index-init
loop-index-init g c = sym (by_none (λ old new. new) c.args.buffers.now)

pub loop-index-preserved : goal.loop-index-preserved
loop-index-preserved g c =
    let within : c.loop-index.index < length c.args.saved.now = omega (arith, c.loop-index-test.true, c.requires) in
    ap (set c.loop-index.buffers c.loop-index.index) c.restore.ensures
    ∙ changed_more (λ old new. new) c.args.buffers.now c.loop-index.buffers c.args.saved.now c.loop-index.index
    c.index-buffers-index.result c.index-saved-index.result within c.loop-index.invariant c.index-buffers-index.is
    c.index-saved-index.is

pub returns : goal.returns
returns g c =
    changed_all (λ old new. new) c.args.buffers.now c.loop-index.buffers c.args.saved.now c.loop-index.index
    c.loop-index.invariant (omega (arith, c.loop-index-test.false, c.loop-index.auto.index-end, c.requires))
    ∙ all_others c.args.buffers.now c.args.saved.now c.requires
