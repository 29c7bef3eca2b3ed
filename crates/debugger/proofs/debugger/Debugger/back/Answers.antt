use Rattle.std.proofs.Common.{◌-◌, subst, arith}
use Rattle.debugger.specs.DebuggerStates.{DebuggerState, GoesBackBy}
use Rattle.debugger.proofs.DebuggerLaws.{gone_back, undone_of, undone_within}
use Rattle.debugger.proofs.debugger.Debugger.back.Goals as goal

pub overflow_sub-result : goal.overflow_sub-result
overflow_sub-result g c =
    let way : DebuggerState = record {
      past = c.self.inside.session;
      schedule = c.self.inside.schedule.items;
      sources = c.self.inside.sources.items;
      place = c.self.inside.place;
    } in
    let undone = undone_of c.self.inside.sources.items c.deref.result.now _ c.scheduled_in-undone.result c.deref.ensures.value c.scheduled_in-undone.ensures in
    undone_within way c.saturating_sub-left.result c.scheduled_in-undone.result c.self.invariant undone

pub invariant_of-result : goal.invariant_of-result
invariant_of-result g c =
    let way : DebuggerState = record {
      past = c.self.inside.session;
      schedule = c.self.inside.schedule.items;
      sources = c.self.inside.sources.items;
      place = c.self.inside.place;
    } in
    let undone = undone_of c.self.inside.sources.items c.deref.result.now _ c.scheduled_in-undone.result c.deref.ensures.value c.scheduled_in-undone.ensures in
    let back = gone_back g.row.B g.row.M way c.in_ok-session.session c.args.k c.saturating_sub-left.result _ c.self.invariant c.in_ok-session.ensures
    (omega (arith, c.saturating_sub-left.ensures, c.len.ensures, c.self.inside.sources.ok.0)) undone in
    rw c.truncate.ensures.items back.0

pub returns : goal.returns
returns g c =
    let way : DebuggerState = record {
      past = c.self.inside.session;
      schedule = c.self.inside.schedule.items;
      sources = c.self.inside.sources.items;
      place = c.self.inside.place;
    } in
    let undone = undone_of c.self.inside.sources.items c.deref.result.now _ c.scheduled_in-undone.result c.deref.ensures.value c.scheduled_in-undone.ensures in
    let back = gone_back g.row.B g.row.M way c.in_ok-session.session c.args.k c.saturating_sub-left.result _ c.self.invariant c.in_ok-session.ensures
    (omega (arith, c.saturating_sub-left.ensures, c.len.ensures, c.self.inside.sources.ok.0)) undone in
    let new : DebuggerState =
    record { past = c.in_ok-session.session; schedule = way.schedule; sources = c.truncate.new.self.items; place = way.place - c.scheduled_in-undone.result } in
    subst (λ (v : DebuggerState). GoesBackBy g.row.B g.row.M v c.args.k new) c.self.view_is (rw c.truncate.ensures.items back.1)
