use Rattle.std.proofs.Common.{ℕ, ◌∙◌, ap, max, min}
use Rattle.step_machine.specs.History.{HartOpeningValue}
use Rattle.view_engines.specs.LeastWidths.{store_count}
use Rattle.view_engines.proofs.WidthLaws.{wider}
use Rattle.view_engines.proofs.least_widths.most_stores.Goals as goal

pub loop-hart-preserved : goal.loop-hart-preserved
loop-hart-preserved c =
    let count = c.hart_stores.ensures ∙ ap (λ (hart : HartOpeningValue). store_count hart.code) c.hart-item.is in
    wider (λ (hart : HartOpeningValue). store_count hart.code) c.args.harts.now c.loop-hart.hart-index c.hart-item.result _ _
    c.loop-hart-test.true c.loop-hart.invariant
    (c.max-lanes.ensures ∙ ap (λ (n : ℕ). max c.loop-hart.lanes n) (c.capped.ensures ∙ ap (λ (n : ℕ). min n 255) count))
