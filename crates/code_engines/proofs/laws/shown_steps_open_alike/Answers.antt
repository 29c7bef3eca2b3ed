use Rattle.litmus_reader.proofs.PlainOpenings.{plain_opening}
use Rattle.code_engines.proofs.ShownSteps.{opens, opens_with}
use Rattle.code_engines.proofs.laws.shown_steps_open_alike.Goals as goal

pub returns-clause-opens : goal.returns-clause-opens
returns-clause-opens c = λ M file test is room. opens M test.opening (plain_opening file test is) room

pub returns-clause-steps : goal.returns-clause-steps
returns-clause-steps c = λ M file test more events is room (line, one, says) few.
    opens_with M test.opening more line events (plain_opening file test is) room one says few
