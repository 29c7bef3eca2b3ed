pub mod Faults
pub mod StateText
pub mod Engines
pub mod Interactive
pub mod Inputs
pub mod Runs
pub mod Histories
pub mod OpeningTexts
pub mod Outcomes
pub mod Counting
pub mod inner
pub use Rattle.engine_support.specs.Faults.{Answers, AnswersAs, AnswersBy, at_line, fault_at, fault_for, not_text, refused_at, too_large}
pub use Rattle.engine_support.specs.Engines.{AcceptedInput, AreAlike, AreOneAnswer, Ends, OfInput, Output, decoded}
pub use Rattle.engine_support.specs.Interactive.{EndsInteractive, OnStopped, OnUnwritten}
pub use Rattle.engine_support.specs.Inputs.{After, Format, IsInput, IsNoTest, IsReadAs, IsRefused, Reads, TakesFew, before_lines, format, kept_of, litmus_texts}
pub use Rattle.engine_support.specs.Inputs.{refused_test, schedules, tests, tests_with, whole_lines}
unfoldable pub use Rattle.engine_support.specs.Inputs.{schedule_of, test_of}
pub use Rattle.engine_support.specs.Inputs.After.{read, refused}
pub use Rattle.engine_support.specs.Runs.{Records}
pub use Rattle.engine_support.specs.Histories.{AnswersEvents, AnswersRun, ByEvents, BySchedule}
pub use Rattle.engine_support.specs.Outcomes.{AreOutcomes, line_of, unfinished_line}
pub use Rattle.engine_support.specs.Counting.{AreCountedLines, Counted, Counts, counted, counted_both, counted_by, counted_line, is_key}
unfoldable pub use Rattle.engine_support.specs.Counting.{counted_of, seen_of}
pub use Rattle.engine_support.specs.inner.{AreFound, AreRead, FindsUpToReads, IsEndOf, IsFailure, IsPart, IsReadAsText, IsReadFailure, ReadsText, lines_in}
pub use Rattle.engine_support.specs.inner.{order, row_line, test_and_value, text_and_value}
pub use Rattle.engine_support.specs.declared.fault.Fault.{Fault}
pub use Rattle.engine_support.specs.declared.fault.Fault.TheVariants.{NoMemory, ReadFailed, Refused, WriteFailed}
pub use Rattle.engine_support.specs.declared.fault.Refusal.{Refusal}
pub use Rattle.engine_support.specs.declared.outcomes.Row.{Row}
