use Rattle.std.proofs.Common.{◌≡◌, ◌∙◌, sym, refl, Ok}
use Rattle.litmus.specs.Drafting.{formula_of_symbols}
use Rattle.litmus.proofs.StageLaws.{is_within, finished-open, condition_steps, finished-steps}
use Rattle.litmus.proofs.GrammarLaws.{finished_only}
use Rattle.litmus.proofs.FrontLaws.{finished-found}
use Rattle.litmus.proofs.draft.ConditionDraft.finish.Goals as goal

pub into_steps-requires : goal.into_steps-requires
into_steps-requires c = is_within c.self.inside.tokens.items c.self.inside.builder c.self.invariant

pub returns-then-not-is_complete-clause-exact : goal.returns-then-not-is_complete-clause-exact
returns-then-not-is_complete-clause-exact c =
    rw (← c.self.view_is) (finished-open c.self.inside.tokens.items c.self.inside.builder c.self.invariant
    (sym c.is_complete.ensures ∙ c.if-not-is_complete.true))

pub returns-then-not-is_complete-clause-only : goal.returns-then-not-is_complete-clause-only
returns-then-not-is_complete-clause-only c = λ f stands.
    let read : formula_of_symbols c.args.self ≡ Ok f = finished_only c.args.self f stands in
    let refused = returns-then-not-is_complete-clause-exact c in
    absurd (cc)

pub returns-then-not-is_complete-clause-misplaced : goal.returns-then-not-is_complete-clause-misplaced
returns-then-not-is_complete-clause-misplaced c = (λ refused. λ f stands. let same = returns-then-not-is_complete-clause-only c f stands in cc, λ none. refl)

pub of_steps-requires : goal.of_steps-requires
of_steps-requires c = condition_steps c.self.inside.tokens.items c.self.inside.builder c.into_steps.result.items
    c.self.invariant (sym c.is_complete.ensures ∙ c.if-not-is_complete.false) c.into_steps.ensures

pub returns-clause-exact : goal.returns-clause-exact
returns-clause-exact c = rw (← c.self.view_is)
    (finished-steps c.self.inside.tokens.items c.self.inside.builder c.into_steps.result.items c.of_steps.result
    c.self.invariant (sym c.is_complete.ensures ∙ c.if-not-is_complete.false) c.into_steps.ensures c.of_steps.ensures)

pub returns-clause-found : goal.returns-clause-found
returns-clause-found c = finished-found c.args.self c.of_steps.result (returns-clause-exact c)

pub returns-clause-only : goal.returns-clause-only
returns-clause-only c = λ f stands.
    let read : formula_of_symbols c.args.self ≡ Ok f = finished_only c.args.self f stands in
    let answered = returns-clause-exact c in
    let same : c.of_steps.result ≡ f = cc in
    cc

pub returns-clause-misplaced : goal.returns-clause-misplaced
returns-clause-misplaced c = (λ refused. absurd (cc), λ none. absurd (none c.of_steps.result (returns-clause-found c)))
