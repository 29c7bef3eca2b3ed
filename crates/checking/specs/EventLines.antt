-- On which line of a record an event stands.
use Rattle.std.specs.Prelude.{ℕ, ◌+◌, ◌-◌, nat_lt, if◌then◌else◌, unwrap_or, List, [], ◌∷◌, Option, None, Some, drop}
use Rattle.std.specs.Str.Lines.{lines}
use Rattle.texts.specs.Cutting.{after, is_byte, first_cut}
use Rattle.texts.specs.Numbers.{number_of}

-- how many events a token stands for: the number after its `*` (42), or one
abbrev pub times_after : Option (List ℕ) → ℕ
times_after None = 1
times_after (Some digits) = unwrap_or (number_of digits) 0

-- how many events a line has whose first token is this; none where it is blank
abbrev pub events_of_cut : Option (List ℕ × List ℕ) → ℕ
events_of_cut None = 0
events_of_cut (Some cut) = times_after (after (is_byte 42) cut.0)

abbrev pub events_on : (line : List ℕ) → ℕ
events_on line = events_of_cut (first_cut line)

-- which of these lines, counted from 0, has the event of this place among all of their events
abbrev pub line_holding : (event : ℕ) → List (List ℕ) → ℕ
line_holding event [] = 0
line_holding event (line ∷ others) = if nat_lt event (events_on line) then 0 else line_holding (event - events_on line) others + 1

-- the line of a record, counted from 1, on which an event stands; the first is the head line
abbrev pub line_of_event : (text : List ℕ) → (event : ℕ) → ℕ
line_of_event text event = line_holding event (drop 1 (lines text)) + 2
