pub mod RecordTexts
pub mod EventLines
pub mod Judgements
pub mod Reports
pub mod Outcomes
pub mod Checking
pub mod inner
pub use Rattle.checking.specs.RecordTexts.{before_record, begins_record, is_left_out, records_in, texts_with, unless_blank}
unfoldable pub use Rattle.checking.specs.RecordTexts.{are_blank_lines, texts_in}
pub use Rattle.checking.specs.EventLines.{events_on, line_holding, line_of_event}
pub use Rattle.checking.specs.Judgements.{AreTextsJudged, EndsAs, IsDifference, IsRecordJudged, IsRunJudged, IsTextJudged, Judged, judged_run}
unfoldable pub use Rattle.checking.specs.Judgements.{record_of}
pub use Rattle.checking.specs.Judgements.IsRecordJudged.{of_difference, of_run}
pub use Rattle.checking.specs.Judgements.IsTextJudged.{none, record_is}
pub use Rattle.checking.specs.Judgements.Judged.{differing, no_record}
pub use Rattle.checking.specs.Reports.{judgement_line, judgement_lines}
pub use Rattle.checking.specs.Outcomes.{IsOutcomeTable, accepted_row, finished_with, first_record, is_refused, is_unfinished, record_end, refused_line}
pub use Rattle.checking.specs.Checking.{IsCheckAnswer, IsCheckFront, IsChecked, IsFront, OfLines}
pub use Rattle.checking.specs.inner.{AllWritten, Closes, HasRoomForText, IsHeld, IsTallyOfTexts, OneWritten, SomeWritten, TakesLine, TalliesText, first_name}
pub use Rattle.checking.specs.inner.{held_with, table_text}
pub use Rattle.checking.specs.inner.Closes.{judged, left_out}
pub use Rattle.checking.specs.inner.TakesLine.{begins, belongs}
pub use Rattle.checking.specs.declared.tally.Tally.{Tally}
