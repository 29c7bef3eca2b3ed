use Rattle.recorder.proofs.OutcomeLaws.{outcome_again, outcome_read}
use Rattle.recorder.proofs.laws.outcomes_are_read_again.Goals as goal

pub returns-clause-again : goal.returns-clause-again
returns-clause-again c = outcome_again

pub returns-clause-read : goal.returns-clause-read
returns-clause-read c = outcome_read
