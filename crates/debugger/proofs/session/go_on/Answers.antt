use Rattle.std.proofs.Common.{◌≡◌, ◌+◌, List, ◌++◌, ◌∷◌, [], length, arith}
use Rattle.step_machine.specs.Snapshots.{SnapshotView}
use Rattle.step_machine.specs.declared.events.Event.{Event}
use Rattle.debugger.proofs.SnapshotLaws.{went_on, one_taken, none_taken}
use Rattle.debugger.proofs.session.go_on.Goals as goal

pub returns-in_ok-push-2-clause-kept : goal.returns-in_ok-push-2-clause-kept
returns-in_ok-push-2-clause-kept g c =
    let before = c.args.machine.now.history in
    let after = c.step.new.self.history in
    let evs : List Event = c.args.events.now.items in
    let ss : List SnapshotView = c.args.snapshots.now.items in
    let count : c.len.result ≡ length evs + 1 = omega (arith, c.len.ensures, c.in_ok-push.ensures.len, c.args.events.now.ok.0) in
    rw (c.in_ok-push.ensures.items, c.in_ok-push-2.ensures.items)
    (went_on g.row.B g.row.M before evs c.args.event c.in_ok-outcome.outcome after (ss ++ c.in_ok-snapshot.snapshot ∷ [])
    c.requires.ran c.in_ok-outcome.ensures.happens c.step.ensures.opening
    (λ ran. one_taken g.row.B g.row.M before.opening evs c.args.event ss after c.in_ok-snapshot.snapshot c.requires.held
    (rw count at c.if-len-eq0.true) ran c.in_ok-snapshot.ensures))

pub returns-else-len-eq0-clause-kept : goal.returns-else-len-eq0-clause-kept
returns-else-len-eq0-clause-kept g c =
    let before = c.args.machine.now.history in
    let evs : List Event = c.args.events.now.items in
    let ss : List SnapshotView = c.args.snapshots.now.items in
    let count : c.len.result ≡ length evs + 1 = omega (arith, c.len.ensures, c.in_ok-push.ensures.len, c.args.events.now.ok.0) in
    rw c.in_ok-push.ensures.items
    (went_on g.row.B g.row.M before evs c.args.event c.in_ok-outcome.outcome c.step.new.self.history ss
    c.requires.ran c.in_ok-outcome.ensures.happens c.step.ensures.opening
    (λ ran. none_taken g.row.B g.row.M before.opening evs c.args.event ss c.requires.held (rw count at c.if-len-eq0.false)))
