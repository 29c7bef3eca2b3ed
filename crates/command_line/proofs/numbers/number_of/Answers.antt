use Rattle.std.proofs.Common.{◌∙◌}
use Rattle.command_line.proofs.NumberLaws.{seed_read}
use Rattle.command_line.proofs.numbers.number_of.Goals as goal

pub returns : goal.returns
returns c = c.ok.ensures.value ∙ seed_read c.args.text.now c.parse.result c.parse.ensures.value.0
