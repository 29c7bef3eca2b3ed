use Rattle.std.proofs.Common.{◌≤◌, length, arith}
use Rattle.checking.specs.Judgements.{record_of}
use Rattle.engine_support.proofs.Judging.{decoded-text, decoded-no_text}
use Rattle.checking.proofs.judging.read_steps.Goals as goal

pub returns-in-Ok-clause-exact : goal.returns-in-Ok-clause-exact
returns-in-Ok-clause-exact c =
    let few : length c.args.text.now ≤ 1048576 = omega arith in
    rw (decoded-text record_of c.args.text.now few c.in-Ok.ensures.cases.1, ← c.in-Ok.ensures.cases.0) c.steps_of.ensures.exact

pub returns-in-Err-clause-exact : goal.returns-in-Err-clause-exact
returns-in-Err-clause-exact c =
    let few : length c.args.text.now ≤ 1048576 = omega arith in
    rw c.refused-in-Err.ensures (decoded-no_text record_of c.args.text.now few c.in-Err.ensures.cases.0)
