-- What is so of the position is so of each history that ends there.
use Rattle.std.proofs.Common.{length}
use Rattle.step_machine.specs.Positions.{position_of}
use Rattle.litmus.proofs.PositionLaws.{verdict_ends}
use Rattle.litmus.proofs.litmus_test.Test.verdict.Goals as goal

pub returns-clause-history : goal.returns-clause-history
returns-clause-history g c = λ t stands.
    verdict_ends (length c.args.machine.now.harts) g.row.M t (position_of c.args.machine.now) c.args.self.now c.verdict_there.result
    (c.laws_of_positions.ensures.ends g.row.B g.row.M t c.args.machine.now stands) c.verdict_there.ensures.there c.verdict_there.ensures.position
