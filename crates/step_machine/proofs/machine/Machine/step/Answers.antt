-- A step of a sound machine is what happens to its history, and leaves a sound machine.
use Rattle.std.proofs.Common.{◌≡◌, List, ◌∙◌, ap, subst, arith}
use Rattle.step_machine.specs.Names.{Entry, History, HistoryWithRoom, Happens, IsMachineAt}
use Rattle.step_machine.proofs.Standings.{sound_moved, sound_stepped, happens_stepped}
use Rattle.step_machine.proofs.machine.Machine.step.Goals as goal

pub invariant_of-self : goal.invariant_of-self
invariant_of-self g c = (
  sound_moved g.row.B g.row.M c.self.inside.room c.self.inside.room c.self.inside.opening
      c.self.inside.entries.entries c.make_room.new.entries.entries c.self.inside.machine_state
      c.make_room.new.machine_state
      c.self.invariant.0 c.make_room.ensures.items c.make_room.ensures.same c.make_room.ensures.harts,
  omega arith,
)

pub invariant_of-self-2 : goal.invariant_of-self-2
invariant_of-self-2 g c =
    let roomy : IsMachineAt g.row.B g.row.M
    (record { opening = c.self.inside.opening; entries = c.make_room.new.entries.entries })
    c.make_room.new.machine_state c.self.inside.room =
    sound_moved g.row.B g.row.M c.self.inside.room c.self.inside.room c.self.inside.opening
    c.self.inside.entries.entries c.make_room.new.entries.entries c.self.inside.machine_state
    c.make_room.new.machine_state
    c.self.invariant.0 c.make_room.ensures.items c.make_room.ensures.same c.make_room.ensures.harts in (
      rw c.saturating_sub-self-inside.ensures
          (sound_stepped g.row.B g.row.M c.self.inside.room _ c.make_room.new.machine_state c.happen-outcome.new.self
          c.args.event c.happen-outcome.result c.add_entry.new.entries.entries
          roomy c.happen-outcome.ensures.outcome c.happen-outcome.ensures.after c.happen-outcome.ensures.fit c.add_entry.ensures.items),
      omega arith,
    )

pub returns-clause-happens : goal.returns-clause-happens
returns-clause-happens g c =
    let roomy : IsMachineAt g.row.B g.row.M
    (record { opening = c.self.inside.opening; entries = c.make_room.new.entries.entries })
    c.make_room.new.machine_state c.self.inside.room =
    sound_moved g.row.B g.row.M c.self.inside.room c.self.inside.room c.self.inside.opening
    c.self.inside.entries.entries c.make_room.new.entries.entries c.self.inside.machine_state
    c.make_room.new.machine_state
    c.self.invariant.0 c.make_room.ensures.items c.make_room.ensures.same c.make_room.ensures.harts in
    let history : History = record { opening = c.self.inside.opening; entries = c.make_room.new.entries.entries } in
    let is : history ≡ c.args.self.now.history =
    ap (λ (es : List Entry). record { opening = c.self.inside.opening; entries = es }) c.make_room.ensures.items
    ∙ ap (λ (p : HistoryWithRoom). p.history) c.self.view_is in
    subst (λ (t : History). Happens g.row.B g.row.M t c.args.event c.happen-outcome.result
    (record { opening = c.self.inside.opening; entries = c.add_entry.new.entries.entries })) is
    (happens_stepped g.row.B g.row.M c.self.inside.room history c.make_room.new.machine_state c.args.event
    c.happen-outcome.result c.add_entry.new.entries.entries roomy c.happen-outcome.ensures.outcome
    c.add_entry.ensures.items)
