use Rattle.surveys.proofs.FieldLaws.{number_read}
use Rattle.surveys.proofs.layout.Field.number_in.Goals as goal

pub returns : goal.returns
returns c = number_read c.args.word c.args.self.shift c.args.self.width c.args.self.in_word c.args.self.few
