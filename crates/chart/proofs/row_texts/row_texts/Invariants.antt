use Rattle.std.proofs.Common.{◌≡◌, map, take}
use Rattle.std.specs.String.{string_bytes}
use Rattle.chart.specs.Scenes.{row_texts}
use Rattle.chart.proofs.row_texts.row_texts.Given as goal

abbrev pub invariant-loop-row : goal.invariant-loop-row
invariant-loop-row l = l.texts.items ≡ row_texts (map string_bytes l.names) l.entries (take l.row-index l.rows)
