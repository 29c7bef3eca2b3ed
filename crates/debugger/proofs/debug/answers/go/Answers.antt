use Rattle.std.proofs.Common.{◌≡◌, ℕ, List, ◌++◌, drop, true, None, Some, sym, ap, subst, ◌∙◌, append_assoc, zero, suc, ◌+◌, Bool, false, [], ◌∷◌, Result, Ok}
use Rattle.std.proofs.Common.{Err, IfOk, OnOk, refl, arith}
use Rattle.std.specs.String.{string_bytes}
use Rattle.std.specs.List.{slice_get}
use Rattle.std.specs.Result.{result_and}
use Rattle.step_machine.specs.History.{History}
use Rattle.step_machine.specs.declared.events.Event.{Event}
use Rattle.debugger.specs.{Past, end_line, break_line, stop_before, DoesAll, Schedule, DebuggerState, DoesEvent}
use Rattle.debugger.proofs.debug.answers.go.Goals as goal

-- What the debugger does of a schedule, event by event.

-- what is left from a place on, where nothing stands there
drop_past : {X : Type 0} (xs : List X) (i : ℕ) → slice_get xs i ≡ None → drop i xs ≡ []
drop_past [] zero e = refl
drop_past [] (suc i) e = refl
drop_past (x ∷ xs) zero e = cc
drop_past (x ∷ xs) (suc i) e = drop_past xs i e

-- and where this does
drop_at : {X : Type 0} (xs : List X) (i : ℕ) (x : X) → slice_get xs i ≡ Some x → drop i xs ≡ x ∷ drop (i + 1) xs
drop_at [] i x e = cc
drop_at (y ∷ xs) zero x e = let same : y ≡ x = cc in ap (λ z. z ∷ xs) same
drop_at (y ∷ xs) (suc i) x e = let on : suc i + 1 ≡ suc (i + 1) = omega arith in drop_at xs i x e ∙ ap (λ n. x ∷ drop n (y ∷ xs)) (sym on)

-- in a run to the next breakpoint, the schedule's next event or its end
module _ (B M : ℕ) (points : List (ℕ × ℕ)) (first : Bool) (old : DebuggerState) where
  -- the events from a debugger's place on are done
  abbrev DoesRest : Bool → (old : DebuggerState) (text : List ℕ) (new : DebuggerState) → Type 0
  DoesRest first old text new = DoesAll B M points (drop old.place old.schedule) first old text new

  pub runs_out : slice_get old.schedule old.place ≡ None → DoesRest first old end_line old
  runs_out e = rw (drop_past old.schedule old.place e) (refl, refl)

  -- the event finds its hart at a breakpoint
  pub held_up : (ev : Event) (point : ℕ × ℕ) → slice_get old.schedule old.place ≡ Some ev → stop_before M points first old.past.history ev ≡ Some point
      → DoesRest first old (break_line point.0 point.1) old
  held_up ev point e stop = rw (drop_at old.schedule old.place ev e, stop) (refl, refl)

  -- the event is done, and then those after it
  pub runs_more : (ev : Event) (line : List ℕ) (mid : DebuggerState) (later : List ℕ) (new : DebuggerState) → slice_get old.schedule old.place ≡ Some ev
      → stop_before M points first old.past.history ev ≡ None → DoesEvent B M old ev Schedule line mid
      → DoesRest false mid later new → DoesRest first old (line ++ later) new
  runs_more ev line mid later new e stop does then =
      let following : drop mid.place mid.schedule ≡ drop (old.place + 1) old.schedule = rw (does.1.schedule, does.1.place) refl in
      let rest : DoesAll B M points (drop (old.place + 1) old.schedule) false mid later new = rw following at then in
      rw (drop_at old.schedule old.place ev e, stop) (line, mid, later, does, refl, rest)

  -- what was done so far, and then its last line
  pub ends_with : {E : Type 0} (from mid to so_far line : List ℕ) (written : Result (Unit {0}) E) (now : DebuggerState) (result : Result DebuggerState E)
      → result ≡ result_and written (Ok now) → mid ≡ from ++ so_far → OnOk written (to ≡ mid ++ line) → DoesRest first old (so_far ++ line) now
      → IfOk result (λ new. (text : List ℕ) × (to ≡ from ++ text) × DoesRest first old text new)
  ends_with from mid to so_far line (Ok x) now result is done wrote does =
      rw is (so_far ++ line, wrote ∙ ap (λ (xs : List ℕ). xs ++ line) done ∙ append_assoc from so_far line, does)
  ends_with from mid to so_far line (Err e) now result is done wrote does = rw is tt

pub returns-in-Some-stop_before : goal.returns-in-Some-stop_before
returns-in-Some-stop_before g c =
    let so_far = c.loop-event.invariant in
    let here : c.machine-machine.result.now.history ≡ c.loop-event.debugger.past.history =
    c.machine-machine.ensures.history ∙ ap (λ (p : Past). p.history) c.session.ensures.value in
    let point : ℕ × ℕ = (c.in-Some-stop_before.hart, c.in-Some-stop_before.pc) in
    let stops : c.stop_before.result ≡ Some point = cc in
    let held : stop_before g.row.M c.args.points.now c.loop-event.first c.loop-event.debugger.past.history c.in-Some.event ≡ Some point =
    ap (λ (t : History). stop_before g.row.M c.args.points.now c.loop-event.first t c.in-Some.event) (sym here) ∙ sym c.stop_before.ensures ∙ stops in
    ends_with g.row.B g.row.M c.args.points.now true c.args.debugger (string_bytes c.args.out.now)
    (string_bytes c.loop-event.out) _ so_far.0 (break_line point.0 point.1)
    c.push_break_line.result c.loop-event.debugger c.and.result c.and.ensures so_far.1 c.push_break_line.ensures
    (so_far.2 (break_line point.0 point.1) c.loop-event.debugger
    (held_up g.row.B g.row.M c.args.points.now c.loop-event.first c.loop-event.debugger c.in-Some.event point (sym c.in-Some.ensures) held))

pub loop-event-preserved : goal.loop-event-preserved
loop-event-preserved g c =
    let so_far = c.loop-event.invariant in
    let did = c.in_ok-debugger.ensures in
    let here : c.machine-machine.result.now.history ≡ c.loop-event.debugger.past.history =
    c.machine-machine.ensures.history ∙ ap (λ (p : Past). p.history) c.session.ensures.value in
    let free : stop_before g.row.M c.args.points.now c.loop-event.first c.loop-event.debugger.past.history c.in-Some.event ≡ None =
    ap (λ (t : History). stop_before g.row.M c.args.points.now c.loop-event.first t c.in-Some.event) (sym here) ∙ sym c.in_default-stop_before.ensures in (
      so_far.0 ++ did.0,
      did.1 ∙ ap (λ (xs : List ℕ). xs ++ did.0) so_far.1 ∙ append_assoc _ so_far.0 did.0,
      λ text new h. subst (λ (xs : List ℕ). DoesAll g.row.B g.row.M c.args.points.now
          (drop c.args.debugger.place c.args.debugger.schedule) true c.args.debugger xs new)
          (sym (append_assoc so_far.0 did.0 text))
          (so_far.2 (did.0 ++ text) new
          (runs_more g.row.B g.row.M c.args.points.now c.loop-event.first c.loop-event.debugger c.in-Some.event
          did.0 c.in_ok-debugger.debugger text new (sym c.in-Some.ensures)
          free
          did.2
          h)),
    )

pub returns : goal.returns
returns g c =
    let so_far = c.loop-event.invariant in
    ends_with g.row.B g.row.M c.args.points.now true c.args.debugger (string_bytes c.args.out.now) (string_bytes c.loop-event.out) _ so_far.0 end_line
    c.push_end_line.result c.loop-event.debugger c.and-2.result c.and-2.ensures so_far.1 c.push_end_line.ensures
    (so_far.2 end_line c.loop-event.debugger (runs_out g.row.B g.row.M c.args.points.now c.loop-event.first c.loop-event.debugger (sym c.in_default.ensures)))
