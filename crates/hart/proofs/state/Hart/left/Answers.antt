use Rattle.std.proofs.Common.{◌≡◌, ℕ, ◌-◌, ◌≤◌, length, drop, refl, ap, subst, arith, length-drop}
use Rattle.hart.specs.Saved.{IsOfItsOpening}
use Rattle.hart.proofs.state.Hart.left.Goals as goal

pub returns-clause-own : goal.returns-clause-own
returns-clause-own c =
    let inbox = c.self.inside.inbox.items in
    let kept : c.self.inside.given ≤ length inbox = c.self.invariant.0.given_of_inbox in
    let taken : length inbox - length (drop c.self.inside.given inbox) ≡ c.self.inside.given = omega (arith, length-drop c.self.inside.given inbox) in
    subst IsOfItsOpening c.self.view_is (record {
      code = refl;
      words = refl;
      inbox = ap (λ (n : ℕ). drop n inbox) taken;
      zero = c.self.invariant.0.zero;
    })
