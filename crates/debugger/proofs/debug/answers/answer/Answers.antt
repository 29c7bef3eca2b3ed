use Rattle.std.proofs.Common.{◌≡◌, ℕ, [], refl, rules, subst}
use Rattle.engine_support.proofs.OutcomeLaws.{none_added}
use Rattle.debugger.specs.DebuggerStates.{GoesBackBy}
use Rattle.debugger.proofs.debug.answers.answer.Goals as goal

pub returns-in_ok-debugger-in-Back : goal.returns-in_ok-debugger-in-Back
returns-in_ok-debugger-in-Back g c =
    let same : c.unwrap_or-events.result ≡ c.in-Back.events = search rules in
    let back = subst (λ (k : ℕ). GoesBackBy g.row.B g.row.M c.args.debugger k c.in_ok-debugger-in-Back.debugger) same c.in_ok-debugger-in-Back.ensures in
    ([], none_added _ [] refl, rw c.in-Back.is (back, refl, refl))

pub returns-in-Quit : goal.returns-in-Quit
returns-in-Quit g c = ([], none_added _ [] refl, rw c.in-Quit.is ((refl, refl), refl))
