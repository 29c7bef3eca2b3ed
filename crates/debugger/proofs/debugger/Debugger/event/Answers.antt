use Rattle.std.proofs.Common.{◌≡◌, ◌+◌, [], ◌∷◌, Some, sym, subst, refl, arith}
use Rattle.std.specs.List.{slice_get}
use Rattle.debugger.specs.{DebuggerState, scheduled, Schedule}
use Rattle.debugger.proofs.DebuggerLaws.{kept_taken}
use Rattle.debugger.proofs.debugger.Debugger.event.Goals.{in-Schedule, in-User}
use Rattle.debugger.proofs.debugger.Debugger.event.Goals as goal

pub invariant_of-debugger : goal.invariant_of-debugger
invariant_of-debugger g c =
    let way : DebuggerState = record {
      past = c.self.inside.session;
      schedule = c.self.inside.schedule.items;
      sources = c.self.inside.sources.items;
      place = c.self.inside.place;
    } in
    let next : c.args.source ≡ Schedule → slice_get way.schedule way.place ≡ Some c.args.event =
    λ is. subst (λ (v : DebuggerState). slice_get v.schedule v.place ≡ Some c.args.event) (sym c.self.view_is)
    (c.requires is) in
    let placed : c.match-source.place ≡ way.place + scheduled (c.args.source ∷ []) = elim c.match-source.branch [
      | in-Schedule w ↦ rw (w.place-is, w.in-Schedule.is) refl
      | in-User w ↦ rw (w.place-is, w.in-User.is) (omega arith)
    ] in
    rw (c.in_ok-push.ensures.items, placed)
    (kept_taken way c.in_ok-session.session c.args.event c.args.source c.self.invariant
    c.in_ok-session.ensures.events next)
