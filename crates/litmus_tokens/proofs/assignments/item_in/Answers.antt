use Rattle.std.proofs.Common.{◌∙◌}
use Rattle.std.specs.Prelude.{option_map}
use Rattle.texts.proofs.GrammarLaws.{if_found}
use Rattle.litmus_tokens.specs.Assignments.{item, assignment_of}
use Rattle.litmus_tokens.proofs.AssignmentLaws.{item_settles}
use Rattle.litmus_tokens.proofs.assignments.item_in.Goals as goal

pub returns-clause-found : goal.returns-clause-found
returns-clause-found c = if_found item item_settles c.args.text.now (option_map assignment_of c.item_of.result) c.item_of.ensures

pub returns-clause-only : goal.returns-clause-only
returns-clause-only c = λ assignment is. c.item_of.ensures ∙ item_settles.only c.args.text.now assignment is
