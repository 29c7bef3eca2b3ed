pub mod StateLines
pub mod Judging
pub mod Endings
pub mod Written
pub mod TestTexts
pub mod RunLaws
pub mod ScheduleLaws
pub mod OneInput
pub mod InputLaws
pub mod TextInputs
pub mod Rows
pub mod OutcomeLines
pub mod OutcomeLaws
pub mod OutcomeTables
pub mod LineReading
pub use Rattle.engine_support.proofs.Judging.{decoded-text}
pub use Rattle.engine_support.proofs.Endings.{is_handed}
pub use Rattle.engine_support.proofs.Written.{appends_more, appends_nothing, end_fails, end_stopped, hands_failure, hands_no_memory, hands_read_failure}
pub use Rattle.engine_support.proofs.Written.{hands_stop, hands_unwritten, keeps_written, no_byte, reads_alone, stopped, unwritten, write_fails, write_stops}
pub use Rattle.engine_support.proofs.Written.{wrote}
pub use Rattle.engine_support.proofs.TestTexts.{answered_refusal, litmus_read}
pub use Rattle.engine_support.proofs.RunLaws.{one_difference, one_place, one_record, one_run, opening_stays, runs_events, runs_or_differs}
pub use Rattle.engine_support.proofs.ScheduleLaws.{made_both, made_of_read, read_fault, refused_both, stopped_by}
pub use Rattle.engine_support.proofs.OneInput.{equal_alike, one_of_history, one_refusal, same_output, value_or_refusal}
pub use Rattle.engine_support.proofs.InputLaws.{IsOne, alike_after, alike_by_schedule, is_one, is_one_without, one_after, one_litmus_text, one_litmus_with}
pub use Rattle.engine_support.proofs.InputLaws.{one_made, one_schedule, refused_after, refused_no_answer}
pub use Rattle.engine_support.proofs.TextInputs.{format_read, no_text_judged, no_text_read_as, some_bytes, text_after}
pub use Rattle.engine_support.proofs.OutcomeTables.{one_outcomes}
pub use Rattle.engine_support.proofs.LineReading.{first_whole, joined_whole, kept_nothing}
