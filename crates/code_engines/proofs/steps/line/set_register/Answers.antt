use Rattle.std.proofs.Common.{◌≡◌, ◌<◌, length, get_or, subst, sym, rules}
use Rattle.step_machine.specs.History.{HartOpeningValue}
use Rattle.code_engines.proofs.ShownSteps.{with_register-done}
use Rattle.code_engines.proofs.steps.line.set_register.Goals as goal

pub returns-clause-exact : goal.returns-clause-exact
returns-clause-exact c =
    let lt : c.in_ok-hart.hart < length c.args.harts.now.items = search rules in
    let found = subst (λ (x : HartOpeningValue). x ≡ get_or c.args.harts.now.items c.in_ok-hart.hart x) (sym c.hart.view_is) c.index_mut-hart.ensures.value in
    let some : c.in_ok-hart.number ≡ 0 → ⊥ = search rules in
    let below : c.in_ok-hart.number < 32 = search rules in
    with_register-done _ _ c.in_ok-hart.hart c.in_ok-hart.number c.in_ok-hart.value _ c.in_ok-hart.ensures.exact lt some below found
