pub mod Schedule
pub mod Reading
pub mod Writing
pub mod Drawing
pub mod Outcomes
pub mod Records
pub mod Versions
pub mod Replaying
pub use Rattle.recorder.specs.Schedule.{EndsLine, IsHeaded, IsPieceOf, IsPlainOf, IsTokensOf, OfHarts, acts, hart_of_event, landings, letter, once}
unfoldable pub use Rattle.recorder.specs.Schedule.{numbers, token}
pub use Rattle.recorder.specs.Reading.{Pushes, at_byte, ends_line, head, run_within, shape_fault, step_over, tokens_at}
unfoldable pub use Rattle.recorder.specs.Reading.{has_head, is_cut, piece_at, plain_at, run_at, tokens_after, tokens_from}
pub use Rattle.recorder.specs.Writing.{is_same, repetition_text, tokens_text}
unfoldable pub use Rattle.recorder.specs.Writing.{canon, schedule_tokens}
pub use Rattle.recorder.specs.Drawing.{drawn, event_of_number}
unfoldable pub use Rattle.recorder.specs.Drawing.{drawn_words, left_after}
pub use Rattle.recorder.specs.Outcomes.{HartOutcome, HasWords, IsEntryOf, IsOutcomeOf, IsWidth, OutcomeFits, OutcomeHasWords, SaysOutcome, entry_line}
pub use Rattle.recorder.specs.Outcomes.{entry_row, event_outcome, is_same_outcome, may_have, outcome_line, outcome_row, outcome_rows, outcome_text, stop_of}
pub use Rattle.recorder.specs.Outcomes.{stopped}
pub use Rattle.recorder.specs.Records.{AreLinesOf, CanBeWritten, IsLineOf, IsRecordOf, IsStepsOf, SizedLine, Step, ends_early, events_in, is_same_step}
pub use Rattle.recorder.specs.Records.{line_before, line_size, lines_between, record_head, record_line, record_lines, steps_cut, steps_of}
unfoldable pub use Rattle.recorder.specs.Records.{record_at, record_text, records_from, steps_at}
pub use Rattle.recorder.specs.Versions.{ScheduleValue, events_of_schedule, schedule_value}
pub use Rattle.recorder.specs.Replaying.{DiffersAt, IsRunRecord, RecordFrom}
pub use Rattle.recorder.specs.declared.faults.AtByte.{AtByte}
pub use Rattle.recorder.specs.declared.faults.ScheduleFault.TheVariants.{BadCount, BadHart, BadHead, BadOutcome, Truncated}
