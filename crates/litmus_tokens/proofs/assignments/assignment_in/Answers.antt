use Rattle.std.proofs.Common.{◌∙◌}
use Rattle.std.specs.Prelude.{option_map}
use Rattle.texts.proofs.GrammarLaws.{if_found}
use Rattle.litmus_tokens.specs.Assignments.{an_assignment, assignment_of}
use Rattle.litmus_tokens.proofs.AssignmentLaws.{assignment_settles}
use Rattle.litmus_tokens.proofs.assignments.assignment_in.Goals as goal

pub returns-clause-found : goal.returns-clause-found
returns-clause-found c = if_found an_assignment assignment_settles c.args.text.now (option_map assignment_of c.assignment_said.result) c.assignment_said.ensures

pub returns-clause-only : goal.returns-clause-only
returns-clause-only c = λ assignment is. c.assignment_said.ensures ∙ assignment_settles.only c.args.text.now assignment is
