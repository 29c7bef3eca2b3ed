use Rattle.std.proofs.Common.{◌≡◌, ◌≤◌, List, [], length, Option, Some, None, ap, arith}
use Rattle.std.specs.Prelude.{IfSome}
use Rattle.std.specs.Global.{Vec}
use Rattle.step_machine.specs.declared.events.Event.{Event}
use Rattle.surveys.specs.Surveys.{IsAnswer}
use Rattle.surveys.proofs.surveying.survey_machine.Goals as goal

never_empty : (P : Type 0) (path : Option (Vec Event)) → IfSome path (λ events. 1 ≤ length events.items)
    → IfSome path (λ events. events.items ≡ [] → P)
never_empty P None some = some
never_empty P (Some events) some = λ none. absurd (omega (arith, some, ap (λ (es : List Event). length es) none))

pub returns-in-Some-clause-opening : goal.returns-in-Some-clause-opening
returns-in-Some-clause-opening g c = λ t stands.
    let answer : IsAnswer g.row.B g.row.M c.args.limit c.args.test.now c.in-Some.searched = rw c.in-Some.is at c.in_ok-searched.ensures in
    record {
      at_once = λ ends. absurd (let yes = (c.ends_as_wanted.ensures.history t stands).1 ends in let no = c.if-ends_as_wanted.false in cc);
      only = never_empty _ c.in-Some.searched.path answer.some;
    }
