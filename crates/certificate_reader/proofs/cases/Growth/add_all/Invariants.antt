use Rattle.std.proofs.Common.{◌≡◌, reverse, vec_len}
use Rattle.certificate_reader.specs.CaseTexts.{grown_onto}
use Rattle.certificate_reader.specs.Growths.{grown_value}
use Rattle.certificate_reader.proofs.cases.Growth.add_all.Given as goal

-- the lines left, before what is made of those after them, make what all lines make
abbrev pub invariant-loop-node : goal.invariant-loop-node
invariant-loop-node l = grown_onto (grown_value l.self) (reverse l.nodes.items) ≡ grown_onto (grown_value l.fn.self) (reverse l.fn.nodes.items)

abbrev pub decreases-loop-node : goal.decreases-loop-node
decreases-loop-node l = vec_len l.nodes
