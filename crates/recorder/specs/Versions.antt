-- Schedules of both versions: events alone, or a record, which says each event's outcome too.
use Rattle.std.specs.Prelude.{◌≡◌, ℕ, if◌then◌else◌, List, Result, Ok}
use Rattle.step_machine.specs.declared.events.Event.{Event}
use Rattle.texts.specs.Results.{◌>>=◌}
use Rattle.recorder.specs.declared.faults.AtByte.{AtByte}
use Rattle.recorder.specs.declared.reading.TheConstants.{MAX_EVENTS}
use Rattle.recorder.specs.declared.versions.Schedule.{Schedule}
use Rattle.recorder.specs.declared.versions.Schedule.TheVariants.{Plain, Record}
use Rattle.recorder.specs.Schedule.{IsPlainOf}
use Rattle.recorder.specs.Reading.{head, has_head, tokens_from}
use Rattle.recorder.specs.Records.{Step, events_in, IsRecordOf, record_at}

-- what a schedule says: events alone, or each with its outcome
pub data ScheduleValue : Type 0 where
  plain : List Event → ScheduleValue
  recorded : List Step → ScheduleValue

abbrev pub schedule_value : Schedule → ScheduleValue
schedule_value (Plain events) = plain events.items
schedule_value (Record steps) = recorded steps.items

-- its events
abbrev pub events_of_schedule : ScheduleValue → List Event
events_of_schedule (plain events) = events
events_of_schedule (recorded steps) = events_in steps

-- The text says this.
abbrev pub SaysSchedule : List ℕ → ScheduleValue → Type 0
SaysSchedule text (plain events) = IsPlainOf text events
SaysSchedule text (recorded steps) = IsRecordOf text steps

-- The text is a schedule of these events, of either version.
abbrev pub IsScheduleOf : List ℕ → List Event → Type 0
IsScheduleOf text events = (parsed : ScheduleValue) × SaysSchedule text parsed × (events ≡ events_of_schedule parsed)

-- ---- the reading

unfoldable pub schedule_at : List ℕ → Result ScheduleValue AtByte
schedule_at text = if has_head head text then (tokens_from 15 MAX_EVENTS text >>= λ events. Ok (plain events))
    else (record_at text >>= λ steps. Ok (recorded steps))

unfoldable pub events_at : List ℕ → Result (List Event) AtByte
events_at text = do
  parsed ← schedule_at text
  Ok (events_of_schedule parsed)
