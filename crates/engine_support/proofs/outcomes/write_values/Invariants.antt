use Rattle.std.proofs.Common.{◌≡◌, ℕ, List, ◌++◌, length, zip, All}
use Rattle.std.specs.List.{flat_map}
use Rattle.std.specs.Io.KnownBytes.{Appends}
use Rattle.std.specs.Slice.Iter.{iter_rest}
use Rattle.std.specs.Iterator.Adapters.{zip_first, zip_second}
use Rattle.litmus.specs.LitmusTests.{IsThere, left_sides}
use Rattle.engine_support.specs.Outcomes.{value_text}
use Rattle.engine_support.proofs.outcomes.write_values.Given as goal

-- what is written, and what is left to write, is all
abbrev pub invariant-loop-place : goal.invariant-loop-place
invariant-loop-place g l = record {
  so_far : (out : List ℕ) × Appends (g.W.Write.contents l.fn.writer) (g.W.Write.contents l.writer) out
      × (out ++ flat_map (value_text l.test.names) (zip (iter_rest (zip_first l.place-iterator)) (iter_rest (zip_second l.place-iterator)))
      ≡ flat_map (value_text l.test.names) (zip (left_sides l.test.condition) l.values));
  there : All (IsThere (length l.test.opening.harts) (length l.test.names)) (iter_rest (zip_first l.place-iterator));
}
