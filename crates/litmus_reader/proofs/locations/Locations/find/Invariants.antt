use Rattle.std.proofs.Common.{◌≡◌, map, drop}
use Rattle.std.specs.String.{string_bytes}
use Rattle.litmus_reader.specs.Locations.{index_from}
use Rattle.litmus_reader.proofs.locations.Locations.find.Given as goal

abbrev pub invariant-loop-index : goal.invariant-loop-index
invariant-loop-index l = index_from l.index (map string_bytes (drop l.index l.other-items)) l.name ≡ index_from 0 (map string_bytes l.other-items) l.name
