-- The one text in which a schedule is written: the longest runs of equal events as tokens, with a space
-- between them.
use Rattle.std.specs.Prelude.{ℕ, ◌==◌, nat_lt, Bool, false, if◌then◌else◌, List, [], ◌∷◌, ◌++◌}
use Rattle.std.specs.Fmt.{decimal}
use Rattle.texts.specs.Runs.{Repetition, repetitions_of}
use Rattle.step_machine.specs.declared.events.Event.{Event}
use Rattle.step_machine.specs.declared.events.Event.TheVariants.{Act, Land}
use Rattle.recorder.specs.Schedule.{letter, hart_of_event}
use Rattle.recorder.specs.Reading.{head}

abbrev pub is_same : Event → Event → Bool
is_same (Act hart) (Act other) = hart == other
is_same (Act hart) (Land other) = false
is_same (Land hart) (Act other) = false
is_same (Land hart) (Land other) = hart == other

-- a run's token: the letter, the hart, and a `*` (42) and the count where it isn't 1
abbrev pub repetition_text : Repetition Event → List ℕ
repetition_text run = letter run.0 ∷ (decimal (hart_of_event run.0) ++ (if nat_lt 1 run.1 then 42 ∷ decimal run.1 else []))

-- the tokens, with a space (32) between two
abbrev pub tokens_text : List (Repetition Event) → List ℕ
tokens_text [] = []
tokens_text (run ∷ []) = repetition_text run
tokens_text (run ∷ next ∷ runs) = repetition_text run ++ 32 ∷ tokens_text (next ∷ runs)

-- the tokens of a list of events
unfoldable pub schedule_tokens : List Event → List ℕ
schedule_tokens events = tokens_text (repetitions_of is_same events)

-- The text of a schedule: the head line, and the tokens' line where there are events. Each ends by LF (10).
unfoldable pub canon : List Event → List ℕ
canon [] = head ++ 10 ∷ []
canon (event ∷ events) = head ++ 10 ∷ (schedule_tokens (event ∷ events) ++ 10 ∷ [])
