use Rattle.texts.specs.Results.{refusal_of}
use Rattle.assembler.specs.Drafts.{Refusal}
use Rattle.assembler.proofs.ProgramGrammar.{found_line, only_line}
use Rattle.assembler.proofs.draft.Draft.read.Goals as goal

pub returns-clause-found : goal.returns-clause-found
returns-clause-found c = found_line _ _ _ c.args.line.now _ c.tell.ensures.exact

pub returns-clause-only : goal.returns-clause-only
returns-clause-only c more is fresh = only_line (refusal_of {R = Refusal}) _ _ c.args.line.now _ c.tell.ensures.exact more is fresh
