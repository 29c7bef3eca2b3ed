use Rattle.assembler.proofs.OneCode.{refused_without_program}
use Rattle.assembler.proofs.laws.refused_without_value.Goals as goal

pub returns : goal.returns
returns c = refused_without_program
