use Rattle.std.proofs.Common.{length, refl, arith, ◌∙◌}
use Rattle.litmus.proofs.TestLaws.{lefts_there}
use Rattle.litmus.proofs.litmus_test.Test.lefts.Goals as goal

pub returns-clause-there : goal.returns-clause-there
returns-clause-there c =
    lefts_there _ c.args.self.now (length c.args.self.now.opening.harts) (length c.args.self.now.names)
    c.deref.result.now c.self.invariant.0 c.self.view_is refl (omega arith) (c.deref.ensures.value ∙ c.self.invariant.1)
