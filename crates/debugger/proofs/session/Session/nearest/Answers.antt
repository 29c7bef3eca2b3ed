use Rattle.std.proofs.Common.{◌≡◌, ◌/◌, ◌≤◌, List, length, take, Some, sym, ap, subst}
use Rattle.std.specs.List.{slice_get}
use Rattle.step_machine.specs.Snapshots.{SnapshotView}
use Rattle.debugger.specs.{Past, IsNearest, SNAPSHOT_EVENTS}
use Rattle.debugger.proofs.SnapshotLaws.{nearest_of}
use Rattle.debugger.proofs.session.Session.nearest.Goals as goal

pub returns : goal.returns
returns g c =
    let p : Past = record { opening = c.self.inside.machine.history.opening; events = c.self.inside.events.items; history = c.self.inside.machine.history } in
    let within : c.args.place ≤ length p.events = subst (λ (q : Past). c.args.place ≤ length q.events) (sym c.self.view_is) c.requires in
    let ss : List SnapshotView = c.self.inside.snapshots.items in
    let s : SnapshotView = c.latest.result.0.now in
    let at : slice_get ss (length (take c.args.place c.deref-2.result.now) / SNAPSHOT_EVENTS) ≡ Some s =
    rw c.deref.ensures.value at c.latest.ensures.snapshot in
    subst (λ (q : Past). IsNearest g.row.B g.row.M q c.args.place s c.latest.result.1.now) c.self.view_is
    (nearest_of g.row.B g.row.M p ss c.args.place (take c.args.place c.deref-2.result.now) c.latest.result.1.now s
    c.self.invariant.0 c.self.invariant.1 within (ap (take c.args.place) c.deref-2.ensures.value) at c.latest.ensures.rest)
