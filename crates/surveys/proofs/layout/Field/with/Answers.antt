use Rattle.std.proofs.Common.{arith}
use Rattle.surveys.proofs.FieldLaws.{number_written}
use Rattle.surveys.proofs.layout.Field.with.Goals as goal

pub returns : goal.returns
returns c = λ small.
    rw (c.from.ensures, c.from-2.ensures) (
    number_written c.args.word c.args.self.shift c.args.self.width c.number_in.result c.args.number c.args.self.in_word (omega (arith, c.ranges.word.fits))
    c.number_in.ensures small)
