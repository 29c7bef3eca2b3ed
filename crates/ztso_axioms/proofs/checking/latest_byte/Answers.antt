use Rattle.std.proofs.Common.{◌≡◌, ℕ, Bool, ◌+◌, ◌-◌, List, get_or, drop, sym, ◌∙◌, ap, subst, arith}
use Rattle.step_machine.specs.declared.events.Entry.{Entry}
use Rattle.step_machine.specs.Names.{opening_byte, History}
use Rattle.ztso_axioms.specs.Axioms.{is_seen, last_written}
use Rattle.ztso_axioms.proofs.Checked.{NoneWrites, written_if, none_more, last_found}
use Rattle.ztso_axioms.proofs.checking.latest_byte.Goals as goal
use Rattle.ztso_axioms.proofs.checking.latest_byte.Goals.{After-byte_seen}

abbrev seen_here : After-byte_seen → ℕ → Bool
seen_here c = is_seen c.args.trace.now.entries c.args.order.now (get_or c.args.order.now c.args.index 0)

taken : (c : After-byte_seen)
    → written_if c.args.trace.now.entries c.args.addr (seen_here c) (get_or c.args.order.now (c.loop-place.place - 1) 0)
    ≡ c.byte_seen.result
taken c = subst (λ (es : List Entry).
    written_if es c.args.addr (is_seen es c.args.order.now (get_or c.args.order.now c.args.index 0))
    (get_or c.args.order.now (c.loop-place.place - 1) 0) ≡ c.byte_seen.result)
    (c.deref.ensures.value ∙ ap (λ (t : History). t.entries) c.trace.view_is)
    (sym c.byte_seen.ensures)

after : (c : After-byte_seen) → NoneWrites c.args.trace.now.entries c.args.addr (seen_here c) (drop (c.loop-place.place - 1 + 1) c.args.order.now)
after c = subst (λ k. NoneWrites c.args.trace.now.entries c.args.addr (seen_here c) (drop k c.args.order.now)) (omega arith) c.loop-place.invariant

pub loop-place-init : goal.loop-place-init
loop-place-init c = λ w. ap (last_written c.args.trace.now.entries c.args.addr w) c.requires.seen

pub returns-in-Some : goal.returns-in-Some
returns-in-Some c =
    let d : After-byte_seen = (goal.at.returns-in-Some c).After-byte_seen in
    last_found c.args.trace.now.entries c.args.addr (opening_byte c.args.trace.now.opening c.args.addr)
    (c.loop-place.place - 1) c.in-Some.byte (seen_here d) c.args.order.now (omega arith) (taken d ∙ c.in-Some.is)
    (after d)

pub loop-place-preserved : goal.loop-place-preserved
loop-place-preserved c =
    let d : After-byte_seen = (goal.at.loop-place-preserved c).After-byte_seen in
    none_more c.args.trace.now.entries c.args.addr (c.loop-place.place - 1) (seen_here d) c.args.order.now (omega arith) (taken d ∙ c.in_default.is) (after d)
