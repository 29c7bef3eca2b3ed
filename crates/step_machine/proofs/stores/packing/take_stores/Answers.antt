use Rattle.std.proofs.Common.{◌≡◌, ℕ, ◌+◌, ◌-◌, suc, List, drop, sym, ◌∙◌, ap, arith}
use Rattle.std.specs.Prelude.{slice_index}
use Rattle.memory.specs.Writes.{write}
use Rattle.step_machine.specs.Positions.{with_store, unpacked_stores}
use Rattle.step_machine.proofs.TakingLaws.{stores_step}
use Rattle.step_machine.proofs.stores.packing.take_stores.Goals as goal

pub loop-preserved : goal.loop-preserved
loop-preserved g c =
    let one : c.args.count - c.loop.counter ≡ suc (c.args.count - (c.loop.counter + 1)) = omega arith in
    let rest = c.loop.rest.now in
    let width : c.first_word-width.result ≡ slice_index (drop 1 rest) 0 =
    c.first_word-width.ensures ∙ ap (λ (ws : List ℕ). slice_index ws 0) c.words_after.ensures in
    let value : c.first_word-value.result ≡ slice_index (drop 2 rest) 0 =
    c.first_word-value.ensures ∙ ap (λ (ws : List ℕ). slice_index ws 0) c.words_after-in-loop.ensures in
    let buffer : c.push_fitting.new.buffer ≡ with_store g.row.B g.row.M c.loop.buffer
    (write (slice_index rest 0) (slice_index (drop 1 rest) 0) (slice_index (drop 2 rest) 0)) =
    c.push_fitting.ensures ∙ (λ k. with_store g.row.B g.row.M c.loop.buffer (write (c.first_word-addr.ensures k) (width k) (value k))) in
    c.loop.invariant ∙ stores_step g.row.B g.row.M (c.args.count - c.loop.counter) (c.args.count - (c.loop.counter + 1)) c.loop.buffer c.loop.rest.now one
    ∙ sym (λ k. unpacked_stores g.row.B g.row.M (c.args.count - (c.loop.counter + 1)) (buffer k) (c.words_after-rest.ensures k))
