-- Whatever history the machine stands at the end of, the event makes the one that it then stands at; and whatever
-- position it is at, the next one.
use Rattle.std.proofs.Common.{◌≡◌, List, length, refl, ◌∙◌, ap, arith}
use Rattle.hart.specs.State.{HartView}
use Rattle.step_machine.specs.Names.{Entry, Outcome, Config, AllHaveRoom, after_outcome, entries_after, IsMachineAt}
use Rattle.step_machine.proofs.PositionLaws.{answer_is, position_is_next, opening_stepped}
use Rattle.step_machine.proofs.Rooms.{same-length}
use Rattle.step_machine.proofs.Standings.{entry_count, sound_same, sound_stepped, happens_stepped}
use Rattle.step_machine.proofs.machine_state.MachineState.step.Goals as goal

no_room : (hs : List HartView) → AllHaveRoom 0 hs
no_room hs h v is = omega arith

pub returns-clause-ok : goal.returns-clause-ok
returns-clause-ok g c = λ t sound.
    (let roomy : IsMachineAt g.row.B g.row.M t c.reserve_for.new.self 0 = sound_same g.row.B g.row.M 0 0 t
    c.args.self.now c.reserve_for.new.self sound c.reserve_for.ensures.same (no_room _) in
    let entries : List Entry = entries_after t.entries c.happen.result in (
      record { opening = t.opening; entries = entries },
      happens_stepped g.row.B g.row.M 0 t c.reserve_for.new.self c.args.event c.happen.result entries roomy c.happen.ensures.outcome refl,
      sound_stepped g.row.B g.row.M 0 t c.reserve_for.new.self c.happen.new.self c.args.event c.happen.result
          entries roomy c.happen.ensures.outcome c.happen.ensures.after c.happen.ensures.fit refl,
    ))

outcome_count : (c : Config) (o : Outcome) → length (after_outcome c o).harts ≡ length c.harts
outcome_count c o = grind (arith, entry_count)

pub returns-clause-harts : goal.returns-clause-harts
returns-clause-harts g c =
    ap (λ (k : Config). length k.harts) c.happen.ensures.after
    ∙ outcome_count c.reserve_for.new.self c.happen.result
    ∙ same-length c.args.self.now c.reserve_for.new.self c.reserve_for.ensures.same

pub returns-clause-answers : goal.returns-clause-answers
returns-clause-answers g c =
    answer_is g.row.B c.args.self.now c.reserve_for.new.self c.args.event c.happen.result c.reserve_for.ensures.same c.happen.ensures.outcome

pub returns-clause-position : goal.returns-clause-position
returns-clause-position g c =
    position_is_next g.row.B c.args.self.now c.reserve_for.new.self c.happen.new.self c.args.event c.happen.result
    c.reserve_for.ensures.same c.happen.ensures.outcome c.happen.ensures.after

pub returns-clause-opening : goal.returns-clause-opening
returns-clause-opening g c =
    opening_stepped c.args.self.now c.reserve_for.new.self c.happen.new.self c.happen.result c.reserve_for.ensures.same c.happen.ensures.after
