use Rattle.std.proofs.Common.{Ok}
use Rattle.litmus.specs.LitmusTests.{LitmusTest}
use Rattle.engine_support.specs.Inputs.{tests}
use Rattle.engine_support.proofs.InputLaws.{read_after, refused_after}
use Rattle.sampling.specs.inner.Tallies.{name_of_run, text_and_good}
use Rattle.sampling.proofs.trials.made.Goals as goal

pub returns-in_err-test : goal.returns-in_err-test
returns-in_err-test g c left =
    refused_after tests _ _ (λ (q : LitmusTest). q) (text_and_good (name_of_run g.G.Rng.stream) left) c.from_residual.result c.in_err-test.field-0.0
    c.from_residual.ensures.1 c.in_err-test.ensures.test

pub returns : goal.returns
returns g c left =
    read_after tests _ _ (text_and_good (name_of_run g.G.Rng.stream) left)
    (Ok (c.in_ok-test.test, c.in_ok-tally.tally)) c.in_ok-test.test c.in_ok-test.ensures.test
    (c.in_ok-tally.ensures left)
