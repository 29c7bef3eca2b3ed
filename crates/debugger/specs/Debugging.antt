-- What each command of the debugger does, and what it prints.
use Rattle.std.specs.Prelude.{ℕ, ◌≡◌, ◌/◌, ◌%◌, ◌==◌, ◌&&◌, nat_lt, if◌then◌else◌, Bool, true, false, List, [], ◌∷◌}
use Rattle.std.specs.Prelude.{◌++◌, length, drop, position, remove, option_map, Option, None, Some, MatchOption}
use Rattle.std.specs.Prelude.{MatchBool}
use Rattle.std.specs.List.{slice_get}
use Rattle.hart.specs.State.{HartState}
use Rattle.step_machine.specs.History.{History}
use Rattle.step_machine.specs.Entries.{pending, memory_word}
use Rattle.step_machine.specs.Paths.{state_of}
use Rattle.step_machine.specs.declared.events.Event.{Event}
use Rattle.step_machine.specs.declared.events.Event.TheVariants as event
use Rattle.step_machine.specs.declared.events.Outcome.{Outcome}
use Rattle.debugger.specs.declared.debug.command.Command.{Command}
use Rattle.debugger.specs.declared.debug.command.Command.TheVariants as command
use Rattle.debugger.specs.declared.debugger.Source.{Source}
use Rattle.debugger.specs.declared.debugger.Source.TheVariants.{Schedule, User}
use Rattle.debugger.specs.DebuggerStates.{DebuggerState, TakesEvent, GoesBackBy}
use Rattle.engine_support.specs.StateText.{hart_shown}
use Rattle.recorder.specs.Outcomes.{outcome_line}
use Rattle.debugger.specs.DebugText.{end_line, break_line, number_line, store_lines, unknown_line}

-- ---- breakpoints: pairs of a hart and a pc

abbrev pub is_point : (hart pc : ℕ) → ℕ × ℕ → Bool
is_point hart pc point = (point.0 == hart) && (point.1 == pc)

-- the breakpoint at which a hart in this state stands, if it does
abbrev pub point_at : List (ℕ × ℕ) → (hart : ℕ) → Option HartState → Option (ℕ × ℕ)
point_at points hart None = None
point_at points hart (Some s) = option_map (λ at. (hart, s.pc)) (position (is_point hart s.pc) points)

-- the breakpoint at which the event finds its hart, if it lets a hart act
abbrev pub point_before : (M : ℕ) → List (ℕ × ℕ) → History → Event → Option (ℕ × ℕ)
point_before M points t (event.Act hart) = point_at points hart (state_of M t hart)
point_before M points t (event.Land hart) = None

-- no breakpoint holds up the first event
abbrev pub stop_before : (M : ℕ) → List (ℕ × ℕ) → (first : Bool) → History → Event → Option (ℕ × ℕ)
stop_before M points true t ev = None
stop_before M points false t ev = point_before M points t ev

-- the breakpoints after one was set, or cleared where it was set
abbrev pub Toggled : (hart pc : ℕ) → (old new : List (ℕ × ℕ)) → Type 0
Toggled hart pc old new = MatchOption (position (is_point hart pc) old) (new ≡ old ++ (hart, pc) ∷ []) (λ at. new ≡ remove old at)

-- a breakpoint of a hart that there is
abbrev pub Breaks : (t : History) (hart pc : ℕ) (old new : List (ℕ × ℕ)) (text : List ℕ) → Type 0
Breaks t hart pc old new text = MatchBool (nat_lt hart (length t.opening.harts)) ((text ≡ []) × Toggled hart pc old new) ((text ≡ unknown_line) × (new ≡ old))

-- ---- what is looked at

abbrev pub hart_answer : (M : ℕ) → History → (hart : ℕ) → List ℕ
hart_answer M t hart = if nat_lt hart (length t.opening.harts) then hart_shown M t hart else unknown_line

abbrev pub pending_answer : History → (hart : ℕ) → List ℕ
pending_answer t hart = if nat_lt hart (length t.opening.harts) then store_lines (pending hart t.entries) else unknown_line

abbrev pub word_answer : (M : ℕ) → History → (addr : ℕ) → List ℕ
word_answer M t addr = if (addr % 4 == 0) && nat_lt (addr / 4) M then number_line (memory_word t.opening t.entries addr) else unknown_line

-- ---- what is done

-- one event, and its outcome is printed
abbrev pub DoesEvent : (B M : ℕ) (old : DebuggerState) → Event → Source → (text : List ℕ) (new : DebuggerState) → Type 0
DoesEvent B M old ev source text new = (outcome : Outcome) × TakesEvent B M old ev source outcome new × (text ≡ outcome_line ev outcome)

-- the schedule's next event, or the line that there is none
abbrev pub DoesNext : (B M : ℕ) (old : DebuggerState) (text : List ℕ) (new : DebuggerState) → Type 0
DoesNext B M old text new = MatchOption (slice_get old.schedule old.place) ((text ≡ end_line) × (new ≡ old)) (λ ev. DoesEvent B M old ev Schedule text new)

-- The schedule's events from here on, which are these: to its end, or to the next one, other than the
-- first, that finds its hart at a breakpoint.
abbrev pub DoesAll : (B M : ℕ) → List (ℕ × ℕ) → List Event → (first : Bool) (old : DebuggerState) (text : List ℕ) (new : DebuggerState) → Type 0
DoesAll B M points [] first old text new = (text ≡ end_line) × (new ≡ old)
DoesAll B M points (ev ∷ evs) first old text new = MatchOption (stop_before M points first old.past.history ev)
    ((line : List ℕ) × (mid : DebuggerState) × (later : List ℕ) × DoesEvent B M old ev Schedule line mid
    × (text ≡ line ++ later) × DoesAll B M points evs false mid later new)
    (λ point. (text ≡ break_line point.0 point.1) × (new ≡ old))

-- ---- a command

-- what is only looked at changes nothing
abbrev pub Looks : (shown : List ℕ) → (old : DebuggerState) (text : List ℕ) (new : DebuggerState) → Type 0
Looks shown old text new = (text ≡ shown) × (new ≡ old)

-- the command prints this text, and leads from a debugger and breakpoints to others
abbrev pub DoesCommand : (B M : ℕ) → Command → (old new : DebuggerState) (points others : List (ℕ × ℕ)) (text : List ℕ) → Type 0
DoesCommand B M command.Step old new points others text = DoesNext B M old text new × (others ≡ points)
DoesCommand B M command.Go old new points others text = DoesAll B M points (drop old.place old.schedule) true old text new × (others ≡ points)
DoesCommand B M (command.Give ev) old new points others text = DoesEvent B M old ev User text new × (others ≡ points)
DoesCommand B M (command.Break hart pc) old new points others text = Breaks old.past.history hart pc points others text × (new ≡ old)
DoesCommand B M (command.Hart hart) old new points others text = Looks (hart_answer M old.past.history hart) old text new × (others ≡ points)
DoesCommand B M (command.Pending hart) old new points others text = Looks (pending_answer old.past.history hart) old text new × (others ≡ points)
DoesCommand B M (command.Word addr) old new points others text = Looks (word_answer M old.past.history addr) old text new × (others ≡ points)
DoesCommand B M (command.Back k) old new points others text = GoesBackBy B M old k new × (text ≡ []) × (others ≡ points)
DoesCommand B M command.Count old new points others text = Looks (number_line (length old.past.events)) old text new × (others ≡ points)
DoesCommand B M command.Quit old new points others text = Looks [] old text new × (others ≡ points)
