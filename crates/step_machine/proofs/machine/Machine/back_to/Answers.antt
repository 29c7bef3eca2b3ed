-- A sound machine that is put back to a snapshot of its own is sound.
use Rattle.std.proofs.Common.{◌≡◌, List, take, sym, ◌∙◌, ap, subst, arith, lit<}
use Rattle.step_machine.specs.Names.{OpeningValue, HistoryWithRoom, history_of, up_to, SnapshotView, IsTakenAt, Entry}
use Rattle.step_machine.proofs.Snapshots.{within_back, buffers_back, pending_back, words_few, sound_put_to}
use Rattle.step_machine.proofs.machine.Machine.back_to.Goals as goal

pub restore-requires : goal.restore-requires
restore-requires g c =
    let s : SnapshotView = c.args.snapshot.now in
    let o : OpeningValue = c.self.inside.opening in
    let es : List Entry = c.self.inside.entries.entries in
    let taken : IsTakenAt g.row.B g.row.M (up_to s.count (history_of o es)) s =
    subst (λ (p : HistoryWithRoom). IsTakenAt g.row.B g.row.M (up_to s.count p.history) s) (sym c.self.view_is) c.requires in
    let harts = within_back g.row.B g.row.M c.self.inside.room (history_of o es) c.self.inside.machine_state s c.self.invariant.0 taken in
    let buffers = buffers_back g.row.B g.row.M c.self.inside.room (history_of o es) c.self.inside.machine_state s c.self.invariant.0 taken in
    let few = words_few g.row.B g.row.M (up_to s.count (history_of o es)) s taken in
    (lit< tt, (lit< tt, (harts, (buffers, (few, pending_back g.row.B g.row.M (up_to s.count (history_of o es)) s taken)))))

pub invariant_of-self : goal.invariant_of-self
invariant_of-self g c =
    let s : SnapshotView = c.args.snapshot.now in
    let o : OpeningValue = c.self.inside.opening in
    let es : List Entry = c.self.inside.entries.entries in
    let taken : IsTakenAt g.row.B g.row.M (up_to s.count (history_of o es)) s =
    subst (λ (p : HistoryWithRoom). IsTakenAt g.row.B g.row.M (up_to s.count p.history) s) (sym c.self.view_is) c.requires in
    let cut : c.truncate.new.self.entries ≡ take s.count es = c.truncate.ensures.entries ∙ ap (λ (x : SnapshotView). take x.count es) c.snapshot.view_is in (
      sound_put_to g.row.B g.row.M c.self.inside.room o es c.truncate.new.self.entries c.self.inside.machine_state
          c.restore.new.self s c.self.invariant.0 taken cut c.restore.ensures,
      omega arith,
    )
