use Rattle.std.proofs.Common.{◌≡◌, map, drop, vec_len}
use Rattle.litmus_reader.specs.{item_of, zeros, items_put, values_in}
use Rattle.litmus_reader.proofs.opening.values_of.Given as goal

abbrev pub invariant-loop-item : goal.invariant-loop-item
invariant-loop-item l = record {
  harts : vec_len l.values.registers ≡ l.harts;
  words : vec_len l.values.words ≡ l.locations;
  so_far : items_put (values_in l.values) (map item_of (drop l.item-index l.items)) ≡ items_put (zeros l.harts l.locations) (map item_of l.items);
}
