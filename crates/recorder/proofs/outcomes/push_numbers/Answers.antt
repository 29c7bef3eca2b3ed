use Rattle.std.specs.String.{string_bytes}
use Rattle.recorder.proofs.OutcomeLaws.{numbers_written}
use Rattle.recorder.proofs.outcomes.push_numbers.Goals as goal

pub returns : goal.returns
returns c =
    numbers_written (string_bytes c.args.out.now) c.args.name.now (string_bytes c.loop-number.out) c.args.numbers.now
    c.loop-number.number-index c.loop-number-test.false c.loop-number.invariant
