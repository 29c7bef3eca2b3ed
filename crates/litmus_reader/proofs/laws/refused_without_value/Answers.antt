use Rattle.litmus_reader.proofs.TestGrammar as grammar
use Rattle.litmus_reader.proofs.laws.refused_without_value.Goals as goal

pub returns-clause-read : goal.returns-clause-read
returns-clause-read c = grammar.read_exactly

pub returns-clause-refused : goal.returns-clause-refused
returns-clause-refused c = grammar.refused_exactly
