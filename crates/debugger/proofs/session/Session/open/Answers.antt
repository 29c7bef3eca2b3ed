-- A session begins with a snapshot of its opening.
use Rattle.std.proofs.Common.{◌<◌, ◌*◌, ℕ, zero, suc, [], ◌∷◌, take, get_or, refl, arith}
use Rattle.step_machine.specs.Names.{History, Run, SnapshotView, IsTakenAt}
use Rattle.debugger.specs.{SNAPSHOT_EVENTS, IsTakenAfter, HasSnapshots}
use Rattle.debugger.proofs.session.Session.open.Goals as goal

-- after no event, and none before
held_first : (B M : ℕ) (t : History) (s : SnapshotView) → Run B M t.opening [] t → IsTakenAt B M t s → HasSnapshots B M t.opening [] (s ∷ [])
held_first B M t s run taken = record { count = refl; taken = of_place }
  where
    of_place : (k : ℕ) (d : SnapshotView) → k < 1 → IsTakenAfter B M t.opening (take (k * SNAPSHOT_EVENTS) []) (get_or (s ∷ []) k d)
    of_place zero d below = (t, run, taken)
    of_place (suc k) d below = absurd (omega (arith, below))

pub invariant_of-result : goal.invariant_of-result
invariant_of-result g c =
    let now : History = c.in_ok-machine.machine.history in
    let run : Run g.row.B g.row.M now.opening [] now = grind arith in
    rw (c.new.ensures.items, c.in_ok-push.ensures.items, c.new-snapshots.ensures.items)
    (run, held_first g.row.B g.row.M now c.in_ok-snapshot.snapshot run c.in_ok-snapshot.ensures)
