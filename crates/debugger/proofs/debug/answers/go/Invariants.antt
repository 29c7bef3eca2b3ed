use Rattle.std.proofs.Common.{◌≡◌, ℕ, ◌-◌, List, ◌++◌, length, drop, true}
use Rattle.std.specs.String.{string_bytes}
use Rattle.debugger.specs.{DebuggerState, DoesAll}
use Rattle.debugger.proofs.debug.answers.go.Given as goal

-- what is done from here on belongs to what was done so far
abbrev pub invariant-loop-event : goal.invariant-loop-event
invariant-loop-event g l =
    (so_far : List ℕ) × (string_bytes l.out ≡ string_bytes l.fn.out ++ so_far)
    × ((text : List ℕ) (new : DebuggerState) → DoesAll g.row.B g.row.M l.points (drop l.debugger.place l.debugger.schedule) l.first l.debugger text new
    → DoesAll g.row.B g.row.M l.points (drop l.fn.debugger.place l.fn.debugger.schedule) true l.fn.debugger (so_far ++ text) new)

abbrev pub decreases-loop-event : goal.decreases-loop-event
decreases-loop-event g l = length l.debugger.schedule - l.debugger.place
