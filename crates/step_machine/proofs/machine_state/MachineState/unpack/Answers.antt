-- Harts, buffers and words are those that the words say, which fit each other, of the same opening.
use Rattle.std.proofs.Common.{◌≡◌, ℕ, List, ◌++◌, length, take, drop, arith, ap, ◌∙◌, subst, sym}
use Rattle.std.specs.Prelude.{All}
use Rattle.std.proofs.lemmas.Grind.{common_steps}
use Rattle.step_machine.specs.Names.{Config, Fit, AreOfOneOpening, position_of, put_at, unpacked_harts}
use Rattle.hart.specs.{IsOfItsOpening, HartView}
use Rattle.step_machine.proofs.Packing.{HasOwnCode, own_codes, position_put}
use Rattle.step_machine.proofs.PositionLaws.{opening_unpacked}
use Rattle.step_machine.proofs.TakingLaws.{harts_count, fit_unpacked}
use Rattle.step_machine.proofs.machine_state.MachineState.unpack.Goals as goal

pub invariant_of-self : goal.invariant_of-self
invariant_of-self g c =
    let held : Config = record { harts = c.self.inside.harts.items; stored = c.self.inside.stores } in
    let left : Config = record {
      harts = take c.self.inside.harts.len (c.take_harts-rest.new.harts ++ drop (length c.take_harts-rest.new.harts) c.self.inside.harts.items);
      stored = c.unpack.new.self;
    } in
    let is : left ≡ put_at g.row.B g.row.M held c.args.words.now = grind (arith, common_steps, harts_count) in
    (c.self.invariant.0, subst (Fit g.row.M) (sym is) (fit_unpacked g.row.B g.row.M held c.args.words.now c.self.invariant.1))

pub returns-clause-opening : goal.returns-clause-opening
returns-clause-opening g c =
    let opening = opening_unpacked g.row.B g.row.M c.args.self.now c.args.words.now in
    grind (arith, common_steps, harts_count)

pub returns-clause-there : goal.returns-clause-there
returns-clause-there g c d opens sound is =
    let words : List ℕ = c.args.words.now in
    let held : Config = record { harts = c.self.inside.harts.items; stored = c.self.inside.stores } in
    let taken : c.take_harts-rest.new.harts ≡ (unpacked_harts held.harts words).0 =
    c.take_harts-rest.ensures.harts ∙ ap (λ (hs : List HartView). (unpacked_harts hs words).0) c.deref_mut.ensures.value in
    let own : All HasOwnCode held.harts = own_codes held.harts words (subst (All IsOfItsOpening) taken c.take_harts-rest.ensures.own) in
    let there : position_of (put_at g.row.B g.row.M held words) ≡ position_of d =
    ap (λ (ws : List ℕ). position_of (put_at g.row.B g.row.M held ws)) is
    ∙ position_put g.row.B g.row.M held d (subst (λ (k : Config). AreOfOneOpening k d) (sym c.self.view_is) opens) own c.self.invariant.1 sound in
    grind (arith, common_steps, harts_count)
