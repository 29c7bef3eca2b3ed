use Rattle.std.proofs.Common.{rules, ℕ, ◌≤◌, length, Option, Result, Ok, Err, refl, arith}
use Rattle.std.specs.Global.{Vec}
use Rattle.std.specs.Prelude.{IfOk, IfSome}
use Rattle.step_machine.specs.Names.{at_opening, AreOfOneOpening, position_of, RepresentsHistory, Config}
use Rattle.step_machine.specs.declared.events.Event.{Event}
use Rattle.litmus.specs.LitmusTests.{IsTest, LitmusTest}
use Rattle.surveys.specs.inner.Levels.{AreFewestFor}
use Rattle.surveys.specs.Surveys.{AreShortest}
use Rattle.surveys.proofs.RowLaws.{path_shortest}
use Rattle.surveys.proofs.paths.path_of.Goals as goal

found_shortest : {E : Type 0} {B M : ℕ} {q : LitmusTest} (c : Config) (result : Result (Option (Vec Event)) E) → IsTest q → length q.names ≤ M
    → RepresentsHistory B M (at_opening q.opening) c
    → IfOk result (λ found. IfSome found (λ path. AreFewestFor B q (position_of c) (length path.items))) → IfOk result (AreShortest B M q)
found_shortest {B = B} {M = M} {q = q} c (Ok found) test names stands fewest = path_shortest B M q c found test names stands fewest
found_shortest c (Err e) test names stands fewest = fewest

pub new-requires : goal.new-requires
new-requires g c =
    let first = at_opening c.args.test.now.opening in
    let opening : AreOfOneOpening c.in_ok-tables.tables.opening c.in_ok-opened.field-0 =
    c.laws_of_ends.ensures.opening g.row.B g.row.M first first c.in_ok-tables.tables.opening c.in_ok-opened.field-0 c.in_ok-tables.ensures
    c.in_ok-opened.ensures.opened refl in
    search rules

pub returns-clause-shortest : goal.returns-clause-shortest
returns-clause-shortest g c =
    found_shortest c.in_ok-tables.tables.opening c.checked_path.result c.in_ok-opened.ensures.test
    (omega (arith, c.in_ok-opened.ensures.test.names, c.requires.words)) c.in_ok-tables.ensures c.checked_path.ensures.fewest
