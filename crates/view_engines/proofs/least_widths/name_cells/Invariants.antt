use Rattle.std.proofs.Common.{◌≡◌, ◌*◌, length, map, min}
use Rattle.std.specs.List.{range_with_len}
use Rattle.std.specs.String.{string_bytes}
use Rattle.chart.specs.Sayings.{word_name}
use Rattle.view_engines.specs.LeastWidths.{most}
use Rattle.view_engines.proofs.least_widths.name_cells.Given as goal

abbrev pub invariant-loop-place : goal.invariant-loop-place
invariant-loop-place l =
    l.longest ≡ min (most length (map (λ place. word_name (map string_bytes l.names) (4 * place)) (range_with_len 0 l.place))) 255
