-- The command `debug`: what a user's lines print in turn.
use Rattle.std.specs.Prelude.{ℕ, ◌≡◌, if◌then◌else◌, Bool, true, false, List, [], ◌∷◌, ◌++◌, Option, None, Some, IfSome, MatchOption, MatchBool, Result}
use Rattle.std.specs.List.{concat, list_any}
use Rattle.std.specs.Str.Lines.{lines}
use Rattle.step_machine.specs.declared.events.Event.{Event}
use Rattle.litmus.specs.LitmusTests.{LitmusTest}
use Rattle.debugger.specs.declared.debug.command.Command.{Command}
use Rattle.debugger.specs.declared.debug.command.Command.TheVariants as command
use Rattle.engine_support.specs.declared.fault.Refusal.{Refusal}
use Rattle.engine_support.specs.Histories.{ByEvents}
use Rattle.debugger.specs.DebuggerStates.{DebuggerState, debugger_at_opening}
use Rattle.debugger.specs.Commands.{command_of}
use Rattle.debugger.specs.DebugText.{unknown_line}
use Rattle.debugger.specs.Debugging.{DoesCommand}
use Rattle.engine_support.specs.Engines.{Output}
use Rattle.engine_support.specs.Inputs.{whole_lines}
pub use Rattle.engine_support.specs.Interactive.{EndsInteractive, OnRefused, OnStopped, OnUnwritten}

-- whether a line ends the transcript
abbrev pub quits : Option Command → Bool
quits (Some command.Quit) = true
quits other = false

-- what is asked for prints this text, and leads from a debugger and breakpoints to others
abbrev pub DoesAsked : (B M : ℕ) → Option Command → (old new : DebuggerState) (points others : List (ℕ × ℕ)) (text : List ℕ) → Type 0
DoesAsked B M asked old new points others text =
    MatchOption asked ((text ≡ unknown_line) × (new ≡ old) × (others ≡ points))
    (λ command. DoesCommand B M command old new points others text)

-- the same of what a line asks for
abbrev pub DoesLine : (B M : ℕ) → (line : List ℕ) → (old new : DebuggerState) (points others : List (ℕ × ℕ)) (text : List ℕ) → Type 0
DoesLine B M line old new points others text = DoesAsked B M (command_of line) old new points others text

-- these lines print this, up to the one that ends the transcript
abbrev pub Transcript : (B M : ℕ) → List (List ℕ) → DebuggerState → (points : List (ℕ × ℕ)) → (out : List ℕ) → Type 0
Transcript B M [] old points out = out ≡ []
Transcript B M (line ∷ others) old points out = MatchBool (quits (command_of line)) (out ≡ [])
    ((text : List ℕ) × (new : DebuggerState) × (left : List (ℕ × ℕ)) × (later : List ℕ)
    × DoesLine B M line old new points left text × (out ≡ text ++ later) × Transcript B M others new left later)

-- what the user's lines print from here on: those of the bytes that are known, or else some lines
abbrev pub Prints : (B M : ℕ) → (input : Option (List ℕ)) → DebuggerState → (points : List (ℕ × ℕ)) → (out : List ℕ) → Type 0
Prints B M None debugger points out = (typed : List (List ℕ)) × Transcript B M typed debugger points out
Prints B M (Some bytes) debugger points out = Transcript B M (lines bytes) debugger points out

-- what the first of the user's lines print from here on
abbrev pub PrintsFront : (B M : ℕ) → (input : Option (List ℕ)) → DebuggerState → (points : List (ℕ × ℕ)) → (out : List ℕ) → Type 0
PrintsFront B M None debugger points out = (done : List (List ℕ)) × Transcript B M done debugger points out
PrintsFront B M (Some bytes) debugger points out = (done : List (List ℕ)) × (rest : List (List ℕ))
    × (lines bytes ≡ done ++ rest) × Transcript B M done debugger points out

-- the same of one line at least
abbrev pub PrintsSome : (B M : ℕ) → (input : Option (List ℕ)) → DebuggerState → (points : List (ℕ × ℕ)) → (out : List ℕ) → Type 0
PrintsSome B M None debugger points out = (done : List (List ℕ)) × (line : List ℕ) × Transcript B M (done ++ line ∷ []) debugger points out
PrintsSome B M (Some bytes) debugger points out = (done : List (List ℕ)) × (line : List ℕ) × (rest : List (List ℕ))
    × (lines bytes ≡ done ++ line ∷ rest) × Transcript B M (done ++ line ∷ []) debugger points out

-- ---- what is left of the input

-- a line with its end ends the transcript
abbrev pub is_last : (whole : List ℕ) → Bool
is_last whole = list_any (λ line. quits (command_of line)) (lines whole)

-- what follows the first of these lines that ends the transcript; nothing where none does
abbrev pub after_last : (whole : List (List ℕ)) → List ℕ
after_last [] = []
after_last (line ∷ others) = if is_last line then concat others else after_last others

-- what a transcript leaves unread of an input
unfoldable pub left_unread : List ℕ → List ℕ
left_unread bytes = after_last (whole_lines bytes)

-- Of an input whose bytes are known that is left which follows the first line that ends the transcript, or nothing.
abbrev pub Leaves : (old new : Option (List ℕ)) → Type 0
Leaves old new = IfSome old (λ bytes. new ≡ Some (left_unread bytes))

-- ---- the command

-- what the user's lines print at a test's opening; there is no other value
abbrev pub IsTranscript : (B M : ℕ) → (input : Option (List ℕ)) → LitmusTest → List Event → (answer : Output) → Type 0
IsTranscript B M input test events answer = Prints B M input (debugger_at_opening test.opening events) [] answer.0

-- What answers a test, a schedule of either version and the user's lines. The test is judged first. A debugger
-- goes along the schedule's events; what a record says of their outcomes isn't checked.
abbrev pub IsDebugAnswer : (B M : ℕ) → (input file schedule : Option (List ℕ)) → Result Output Refusal → Type 0
IsDebugAnswer B M input = ByEvents (IsTranscript B M input)

-- What the first of the user's lines print, for a test and a schedule that are read.
abbrev pub IsDebugFront : (B M : ℕ) → (input file schedule : Option (List ℕ)) → Result Output Refusal → Type 0
IsDebugFront B M input = ByEvents (λ test events answer. PrintsFront B M input (debugger_at_opening test.opening events) [] answer.0)

-- and what the first of them print, one line at least
abbrev pub IsDebugSome : (B M : ℕ) → (input file schedule : Option (List ℕ)) → Result Output Refusal → Type 0
IsDebugSome B M input = ByEvents (λ test events answer. PrintsSome B M input (debugger_at_opening test.opening events) [] answer.0)
