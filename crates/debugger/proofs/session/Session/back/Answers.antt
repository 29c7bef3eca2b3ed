use Rattle.std.proofs.Common.{◌≡◌, ◌-◌, length, ap, subst, ◌∙◌, arith, lit<, length-take-le}
use Rattle.step_machine.specs.History.{HistoryWithRoom}
use Rattle.debugger.specs.Sessions.{Past, GoesBack}
use Rattle.debugger.proofs.SnapshotLaws.{nearest_left, went_back}
use Rattle.debugger.proofs.session.Session.back.Goals as goal

pub back_to-requires : goal.back_to-requires
back_to-requires g c =
    let left : c.saturating_sub.result ≡ length c.self.inside.events.items - c.args.k =
    omega (arith, c.saturating_sub.ensures, c.len.ensures, c.self.inside.events.ok.0) in
    let near = nearest_left g.row.B g.row.M c.self.inside.machine.history c.self.inside.events.items c.self.inside.snapshots.items c.args.k _ left
    c.self.invariant.0 c.self.invariant.1 _ c.deref-2.result.now c.latest.result.1.now c.latest.result.0.now
    (c.deref-2.ensures.value ∙ c.truncate.ensures.items)
    (rw (c.deref.ensures.value, c.truncate-2.ensures.items) at c.latest.ensures.snapshot) c.latest.ensures.rest in
    (lit< tt, (lit< tt, near.taken))

pub invariant_of-result : goal.invariant_of-result
invariant_of-result g c =
    let left : c.saturating_sub.result ≡ length c.self.inside.events.items - c.args.k =
    omega (arith, c.saturating_sub.ensures, c.len.ensures, c.self.inside.events.ok.0) in
    let near = nearest_left g.row.B g.row.M c.self.inside.machine.history c.self.inside.events.items c.self.inside.snapshots.items c.args.k _ left
    c.self.invariant.0 c.self.invariant.1 _ c.deref-2.result.now c.latest.result.1.now c.latest.result.0.now
    (c.deref-2.ensures.value ∙ c.truncate.ensures.items)
    (rw (c.deref.ensures.value, c.truncate-2.ensures.items) at c.latest.ensures.snapshot) c.latest.ensures.rest in
    let back = went_back g.row.B g.row.M c.self.inside.machine.history c.self.inside.events.items c.self.inside.snapshots.items c.args.k _ left
    c.self.invariant.0 c.self.invariant.1 _ _ _ c.run.new.self.history near
    (ap (λ (q : HistoryWithRoom). q.history) c.back_to.ensures) c.in-Ok.ensures.ok c.run.ensures.opening in
    let count : c.len-2.result ≡ c.saturating_sub.result =
    omega (
      arith,
      c.len-2.ensures,
      c.truncate.new.self.ok.0,
      ap length c.truncate.ensures.items,
      length-take-le c.saturating_sub.result c.self.inside.events.items (omega (arith, left)),
    ) in
    rw (c.truncate.ensures.items, c.truncate-2.ensures.items, count) (back.1, back.2)

pub returns-in-Ok : goal.returns-in-Ok
returns-in-Ok g c =
    let left : c.saturating_sub.result ≡ length c.self.inside.events.items - c.args.k =
    omega (arith, c.saturating_sub.ensures, c.len.ensures, c.self.inside.events.ok.0) in
    let near = nearest_left g.row.B g.row.M c.self.inside.machine.history c.self.inside.events.items c.self.inside.snapshots.items c.args.k _ left
    c.self.invariant.0 c.self.invariant.1 _ c.deref-2.result.now c.latest.result.1.now c.latest.result.0.now
    (c.deref-2.ensures.value ∙ c.truncate.ensures.items)
    (rw (c.deref.ensures.value, c.truncate-2.ensures.items) at c.latest.ensures.snapshot) c.latest.ensures.rest in
    let back = went_back g.row.B g.row.M c.self.inside.machine.history c.self.inside.events.items c.self.inside.snapshots.items c.args.k _ left
    c.self.invariant.0 c.self.invariant.1 _ _ _ c.run.new.self.history near
    (ap (λ (q : HistoryWithRoom). q.history) c.back_to.ensures) c.in-Ok.ensures.ok c.run.ensures.opening in
    let new : Past = record { opening = c.run.new.self.history.opening; events = c.truncate.new.self.items; history = c.run.new.self.history } in
    subst (λ (q : Past). GoesBack g.row.B g.row.M q c.args.k new) c.self.view_is (rw c.truncate.ensures.items back.0)
