use Rattle.std.proofs.Common.{◌≡◌, map, take}
use Rattle.queue_layouts.specs.Sides.{the_party}
use Rattle.records_written.specs.Marks.{leaf_by, leaves_in}
use Rattle.records_written.proofs.leaves.graph_by.Given as goal

abbrev pub invariant-loop-listed : goal.invariant-loop-listed
invariant-loop-listed l =
    l.graph.items ≡ map (λ t. leaves_in (leaf_by l.certificate l.queue (the_party l.party) l.code) t.known t.cases) (take l.listed-index l.states)
