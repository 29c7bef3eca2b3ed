use Rattle.std.proofs.Common.{arith}
use Rattle.command_line.proofs.NumberLaws.{number_read, number_too_small, number_too_large, number_not_read}
use Rattle.command_line.proofs.numbers.count_of.Goals as goal

pub returns-in-Ok : goal.returns-in-Ok
returns-in-Ok c = number_read 32 c.args.least c.args.most c.args.text.now c.in-Ok.count c.in-Ok.ensures.value.0 c.if-least-count.true c.if-count-most.true

pub returns-in_default : goal.returns-in_default
returns-in_default c = number_too_large 32 c.args.least c.args.most c.args.text.now c.in-Ok.count c.in-Ok.ensures.value.0 (omega (arith, c.if-count-most.false))

pub returns-in_default-2 : goal.returns-in_default-2
returns-in_default-2 c = number_too_small 32 c.args.least c.args.most c.args.text.now c.in-Ok.count
    c.in-Ok.ensures.value.0 (omega (arith, c.if-least-count.false))

pub returns-in_default-3 : goal.returns-in_default-3
returns-in_default-3 c = number_not_read 32 c.args.least c.args.most c.args.text.now c.ranges.most.fits c.in_default.ensures.value.0
