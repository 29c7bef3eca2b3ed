-- Reading tokens from the left, with the first fault that is met and its byte.
use Rattle.std.specs.Prelude.{◌≡◌, ℕ, ◌+◌, ◌-◌, ◌==◌, nat_lt, nat_le, is_some, Bool, true, false, ◌&&◌, ◌||◌, if◌then◌else◌, List, [], ◌∷◌, ◌++◌, length, drop}
use Rattle.std.specs.Prelude.{replicate, Option, Some, None, Result, Ok, Err, IfSome, codes, nat_eq}
use Rattle.std.specs.List.{starts_with}
use Rattle.step_machine.specs.declared.events.Event.{Event}
use Rattle.step_machine.specs.declared.events.Event.TheVariants.{Act, Land}
use Rattle.step_machine.specs.declared.opening.TheConstants.{MAX_HARTS}
use Rattle.recorder.specs.declared.faults.ScheduleFault.{ScheduleFault}
use Rattle.recorder.specs.declared.faults.ScheduleFault.TheVariants.{BadHead, BadToken, BadHart, BadCount, Truncated, BadOutcome}
use Rattle.recorder.specs.declared.faults.AtByte.{AtByte}
use Rattle.recorder.specs.declared.tokens.Kind.{Kind}
use Rattle.recorder.specs.declared.tokens.Kind.TheVariants as kinds
use Rattle.recorder.specs.declared.tokens.Token.{Token}
use Rattle.recorder.specs.Schedule.{hart_of_event, token}
use Rattle.recorder.specs.declared.reading.TheConstants.{MAX_EVENTS}
use Rattle.texts.specs.declared.pieces.Separators.TheVariants.{BlanksAndLineEnds}
use Rattle.texts.specs.Pieces.{pieces}
use Rattle.texts.specs.Numbers.{number_of}
use Rattle.texts.specs.Cutting.{before, after, is_byte}
use Rattle.texts.specs.Formats.{or_fault, read_in_turn}
use Rattle.texts.specs.declared.errors.TextError.{TextError}
use Rattle.texts.specs.Results.{◌>>=◌, refusal_of}
use Rattle.recorder.specs.declared.replaying.CheckError.{CheckError}
use Rattle.recorder.specs.declared.replaying.CheckError.TheVariants.{NoMemory, Differs}

abbrev pub at_byte : ScheduleFault → (place : ℕ) → AtByte
at_byte fault place = record { fault = fault; place = place }

-- ---- a token: `a` is 97, `l` is 108, `*` is 42

-- what the code's token stands for
abbrev pub event_of_kind : Kind → ℕ → Event
event_of_kind kinds.Act hart = Act hart
event_of_kind kinds.Land hart = Land hart

abbrev pub run_of_token : Token → Event × ℕ
run_of_token token = (event_of_kind token.kind token.hart, token.times)

abbrev pub ends_after : List ℕ → Option (List ℕ) → Bool
ends_after hart None = length hart == 0
ends_after hart (Some times) = (length times == 0) && is_some (number_of hart)

-- a letter alone, or a letter, a hart and a star: what more bytes would have made a token
unfoldable pub is_cut : List ℕ → Bool
is_cut [] = false
is_cut (c ∷ numbers) = ((c == 97) || (c == 108)) && ends_after (before (is_byte 42) numbers) (after (is_byte 42) numbers)

-- The run of one event for which a token stands that begins at `place` in a text of `end` bytes, where
-- `room` more events may come.
abbrev pub shape_fault : (end place : ℕ) → List ℕ → AtByte
shape_fault end place word = if is_cut word && ((place + length word) == end) then at_byte Truncated end else at_byte BadToken place

abbrev pub run_within : (place room : ℕ) → Event × ℕ → Result (Event × ℕ) AtByte
run_within place room run = if nat_le MAX_HARTS (hart_of_event run.0) then Err (at_byte BadHart place)
    else (if (run.1 == 0) || nat_lt room run.1 then Err (at_byte BadCount place) else Ok run)

unfoldable pub run_at : (end place room : ℕ) → List ℕ → Result (Event × ℕ) AtByte
run_at end place room word = do
  run ← or_fault (shape_fault end place word) (token.reads word)
  run_within place room run

-- ---- a text

unfoldable pub piece_at : (end place room : ℕ) → List ℕ → Result (List Event) AtByte
piece_at end place room [] = Ok []
piece_at end place room (c ∷ word) = do
  run ← run_at end place room (c ∷ word)
  Ok (replicate run.1 run.0)

-- a piece and the separator after it
abbrev pub step_over : List ℕ → ℕ
step_over piece = length piece + 1

-- the events of the tokens that a text has from the byte `start` on, where `room` events may come
unfoldable pub tokens_from : (start room : ℕ) → List ℕ → Result (List Event) AtByte
tokens_from start room text = read_in_turn (piece_at (length text)) step_over start room (pieces BlanksAndLineEnds (drop start text))

-- the events of a text's tokens
abbrev pub tokens_at : (room : ℕ) → List ℕ → Result (List Event) AtByte
tokens_at room text = tokens_from 0 room text

-- The events of a text's tokens after `before` events of other texts: a fault of the text by itself
-- comes first, and then the token with which the total passes the limit.
unfoldable pub tokens_after : (before : ℕ) → List ℕ → Result (List Event) AtByte
tokens_after before text = do
  own ← tokens_at MAX_EVENTS text
  tokens_at (MAX_EVENTS - before) text

-- ---- a schedule

abbrev pub head : List ℕ
head = codes "ztso-schedule 1"

abbrev pub begins_with_lf : List ℕ → Bool
begins_with_lf [] = false
begins_with_lf (c ∷ rest) = c == 10

abbrev pub ends_line : List ℕ → Bool
ends_line [] = true
ends_line (c ∷ rest) = (c == 10) || ((c == 13) && begins_with_lf rest)

-- the first line is this head
unfoldable pub has_head : (head text : List ℕ) → Bool
has_head head text = starts_with nat_eq text head && ends_line (drop (length head) text)

-- The events of a schedule that says no outcomes: its first line has to be the head, and tokens follow.
unfoldable pub plain_at : List ℕ → Result (List Event) AtByte
plain_at text = if has_head head text then tokens_from 15 MAX_EVENTS text else Err (at_byte BadHead 0)

-- What a function did that appends elements: those that are answered, or none, where the answer is a
-- refusal or memory ran out.
abbrev pub Pushes : {E : Type 0} → List E → List E → Result (Unit {0}) (TextError AtByte) → Result (List E) AtByte → Type 0
Pushes {E = E} old new (Ok x) answer = (elements : List E) × (answer ≡ Ok elements) × (new ≡ old ++ elements)
Pushes old new (Err e) answer = (new ≡ old) × IfSome (refusal_of e) (λ refusal. answer ≡ Err refusal)

-- ---- the numbers by which texts name the faults of schedules, and that a record's run differs

abbrev pub schedule_number : ScheduleFault → ℕ
schedule_number BadHead = 27
schedule_number BadToken = 28
schedule_number BadHart = 29
schedule_number BadCount = 30
schedule_number Truncated = 31
schedule_number BadOutcome = 39

abbrev pub check_number : CheckError → ℕ
check_number NoMemory = 0
check_number (Differs place) = 38
