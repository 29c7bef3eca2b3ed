use Rattle.texts.proofs.GrammarLaws.{one_said}
use Rattle.litmus_tokens.specs.Assignments.{an_assignment, item}
use Rattle.litmus_tokens.proofs.AssignmentLaws.{assignment_settles, item_settles}
use Rattle.litmus_tokens.proofs.laws.one_value.Goals as goal

pub returns-clause-assignments : goal.returns-clause-assignments
returns-clause-assignments c = λ text a b is_a is_b. one_said an_assignment assignment_settles text a b is_a is_b

pub returns-clause-items : goal.returns-clause-items
returns-clause-items c = λ text a b is_a is_b. one_said item item_settles text a b is_a is_b
