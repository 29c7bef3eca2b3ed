use Rattle.std.proofs.Common.{[], ◌∷◌, sym, ◌∙◌}
use Rattle.recorder.proofs.OutcomeLaws.{outcome_alone, outcome_chain}
use Rattle.recorder.proofs.outcomes.hart_outcome_in.Goals as goal

-- each by hand: a search looks into all rows of the table
pub returns-in_err-name : goal.returns-in_err-name
returns-in_err-name c = rw c.in_err-name.ensures.tokens c.from_residual.ensures

pub returns-in_err-hart : goal.returns-in_err-hart
returns-in_err-hart c =
    rw (c.in_ok-name.ensures.tokens, c.in_err-hart.ensures.tokens)
    (c.from_residual-in_err-hart.ensures ∙ sym (outcome_alone c.in_ok-name.name.now))

pub returns-in-None : goal.returns-in-None
returns-in-None c =
    rw (c.in_ok-name.ensures.tokens, c.in_ok-hart.ensures.tokens, c.in-None.ensures.tokens)
    (c.outcome_with_one.ensures ∙ sym (outcome_chain c.in_ok-name.name.now (c.in_ok-hart.hart.now ∷ [])))

pub returns-in-Some : goal.returns-in-Some
returns-in-Some c =
    rw (c.in_ok-name.ensures.tokens, c.in_ok-hart.ensures.tokens, c.in-Some.ensures.tokens) c.outcome_from_three.ensures
