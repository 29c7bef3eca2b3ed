use Rattle.std.proofs.Common.{◌≡◌, min, take}
use Rattle.view_engines.specs.LeastWidths.{most, store_count}
use Rattle.view_engines.proofs.least_widths.most_stores.Given as goal

abbrev pub invariant-loop-hart : goal.invariant-loop-hart
invariant-loop-hart l = l.lanes ≡ min (most (λ hart. store_count hart.code) (take l.hart-index l.harts)) 255
