use Rattle.std.proofs.Common.{[], ◌∷◌, sym, ◌∙◌}
use Rattle.recorder.proofs.OutcomeLaws.{outcome_chain}
use Rattle.recorder.proofs.outcomes.outcome_from_three.Goals as goal

pub returns-in_default : goal.returns-in_default
returns-in_default c = rw c.in_default.ensures.tokens
    (c.outcome_with_two.ensures ∙ sym (outcome_chain c.args.name.now (c.args.hart.now ∷ c.args.second.now ∷ [])))

pub returns-in_default-first_token : goal.returns-in_default-first_token
returns-in_default-first_token c =
    rw (c.in-Some.ensures.tokens, c.in_default-first_token.ensures.tokens) (c.outcome_with_three.ensures
    ∙ sym (outcome_chain c.args.name.now (c.args.hart.now ∷ c.args.second.now ∷ c.in-Some.third.now ∷ [])))
