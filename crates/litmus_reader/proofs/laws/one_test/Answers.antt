use Rattle.litmus_reader.proofs.TestGrammar as grammar
use Rattle.litmus_reader.proofs.laws.one_test.Goals as goal

pub returns-clause-contents : goal.returns-clause-contents
returns-clause-contents c = grammar.one_content

pub returns-clause-tests : goal.returns-clause-tests
returns-clause-tests c = grammar.one_test
