pub mod Protocols
pub mod Keeping
pub mod Violations
pub mod Losses
pub mod Runs
pub mod Ends
pub mod Steps
pub mod inner
pub use Rattle.ownership_runs.specs.Protocols.{Follows, HasSlot, IsAnyQueue, Keeps, KeepsOne, Rests, access_counts, end_in, entry_counts, party_for, run_counts}
pub use Rattle.ownership_runs.specs.Keeping.{is_described, is_in_bytes, is_of_owned, is_outside, is_tag_byte, is_tag_store, is_to_fill, keeps_access}
pub use Rattle.ownership_runs.specs.Keeping.{keeps_entry, keeps_store, may_fill, moves_on, owned_by, owning_all, position_from, slots_in}
unfoldable pub use Rattle.ownership_runs.specs.Keeping.{fills}
pub use Rattle.ownership_runs.specs.Violations.{IsFirstViolation, IsForeign, counts_before, first_ownership_violation, judged_entry, stored_of, violation_at}
pub use Rattle.ownership_runs.specs.Violations.{violation_by, violation_from}
pub use Rattle.ownership_runs.specs.Losses.{IsFirstLoss, IsLoss, IsLossAt, IsRecordByte, Loads, SentBytes}
pub use Rattle.ownership_runs.specs.Losses.{WasSent, byte_lost, counts_told, first_loss, if_differs, if_told, is_after}
pub use Rattle.ownership_runs.specs.Losses.{is_record_byte, last_of_slot, loss_at, loss_by, loss_from}
pub use Rattle.ownership_runs.specs.Losses.{loss_since, nothing_sent, or_else, position_told, sent_after}
pub use Rattle.ownership_runs.specs.Losses.{sent_by, sent_from, slot_number, slot_width, slots_from, stores_over}
unfoldable pub use Rattle.ownership_runs.specs.Losses.{first_byte}
pub use Rattle.ownership_runs.specs.Runs.{AreMovesOf, BreaksAndLoses, BreaksNothing, CountsNothing}
pub use Rattle.ownership_runs.specs.Runs.{HasBrokenRun, HasKeptRun, HasLoss, HasMoved, IsLossOfOneKind}
pub use Rattle.ownership_runs.specs.Runs.{IsOfOneKind, LosesNothing, judged_loss, loss_after, published_in, taken_in}
pub use Rattle.ownership_runs.specs.Ends.{EndsInLoss, EndsInViolation}
pub use Rattle.ownership_runs.specs.Steps.{AreSteps, AreStepsFrom, IsStepOf, handed_back, hands_back, is_look, is_own_place, loads, pc_at}
pub use Rattle.ownership_runs.specs.Steps.{recalled, recalled_all, recalled_more, stores}
pub use Rattle.ownership_runs.specs.inner.Noting.{noted_after, noted_all, noted_as, noted_more, nothing_noted}
pub use Rattle.ownership_runs.specs.declared.deciding.RunNotes.{RunNotes}
pub use Rattle.ownership_runs.specs.declared.losses.Loss.{Loss}
pub use Rattle.ownership_runs.specs.declared.runs.Moved.{Moved}
pub use Rattle.ownership_runs.specs.declared.steps.Step.{Step}
pub use Rattle.ownership_runs.specs.declared.violations.Owned.{Owned}
pub use Rattle.ownership_runs.specs.declared.violations.Violation.{Violation}
