-- The observed locations are there, and have in the position the values that they have in each history that ends there.
use Rattle.std.proofs.Common.{◌≡◌, List, ◌∙◌, lit<, ap, length, All}
use Rattle.std.proofs.lemmas.Result.{on_ok_weaker}
use Rattle.step_machine.specs.Positions.{position_of}
use Rattle.litmus.specs.{Place, LitmusTest, IsThere, left_sides}
use Rattle.litmus.proofs.PositionLaws.{values_read}
use Rattle.litmus.proofs.TestLaws.{lefts_there}
use Rattle.litmus.proofs.litmus_test.Test.values_into.Goals as goal

pub values_into-requires : goal.values_into-requires
values_into-requires g c = (
  lit< tt,
  lefts_there _ c.args.self.now (length c.args.machine.now.harts) g.row.M c.deref.result.now c.self.invariant.0
      c.self.view_is c.requires.harts c.requires.words (c.deref.ensures.value ∙ c.self.invariant.1),
)

pub returns : goal.returns
returns g c =
    let lefts : List Place = c.deref.result.now in
    let same : lefts ≡ left_sides c.args.self.now.condition =
    c.deref.ensures.value ∙ c.self.invariant.1 ∙ ap (λ (q : LitmusTest). left_sides q.condition) c.self.view_is in
    let there : All (IsThere (length c.args.machine.now.harts) g.row.M) lefts =
    lefts_there _ c.args.self.now (length c.args.machine.now.harts) g.row.M lefts c.self.invariant.0
    c.self.view_is c.requires.harts c.requires.words (c.deref.ensures.value ∙ c.self.invariant.1) in
    on_ok_weaker c.values_into.result (λ read t stands.
    values_read (length c.args.machine.now.harts) g.row.M t (position_of c.args.machine.now) lefts
    (left_sides c.args.self.now.condition) c.values_into.new.values.items
    (c.laws_of_positions.ensures.ends g.row.B g.row.M t c.args.machine.now stands) there same read) c.values_into.ensures
