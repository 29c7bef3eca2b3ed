use Rattle.assembler.proofs.LineGrammar.{one_line}
use Rattle.assembler.proofs.ProgramGrammar.{one_program}
use Rattle.assembler.proofs.OneCode.{one_code}
use Rattle.assembler.proofs.laws.one_value.Goals as goal

pub returns-clause-lines : goal.returns-clause-lines
returns-clause-lines c = one_line

pub returns-clause-programs : goal.returns-clause-programs
returns-clause-programs c = one_program

pub returns-clause-codes : goal.returns-clause-codes
returns-clause-codes c = one_code
