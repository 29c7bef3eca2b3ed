pub mod Layout
pub mod Reports
pub mod Violations
pub mod Laws
pub mod Listing
pub mod Delivery
pub mod Refusals
pub mod Standing
pub mod Rankings
pub mod Plans
pub mod Waiting
pub mod Invariant
pub use Rattle.poll_close.specs.Layout.{AllTouch, base_of, layout_of}
pub use Rattle.poll_close.specs.Reports.{Clean, IsPrefixOf, sender_of, taken}
pub use Rattle.poll_close.specs.Violations.{AreNotes, IsKept, closed_violation, first_violation, or_later, report_violation, stays_within, took_violation}
pub use Rattle.poll_close.specs.Violations.{violation_after, violation_of, word_violation}
pub use Rattle.poll_close.specs.Laws.{AcceptedAt, AllGoOn, AreWords, Cleans, FitsHart, Goes, GoesOn, Meaning, Ring, Stays, opening_over}
unfoldable pub use Rattle.poll_close.specs.Laws.{Keeps, Opens}
pub use Rattle.poll_close.specs.Listing.{AllMean, RingLines, receiver_with}
pub use Rattle.poll_close.specs.Delivery.{Delivers, DeliversWhole, DeliversWholeOver}
pub use Rattle.poll_close.specs.Refusals.{FitsAt, IsBeyond, IsOfLists, RefusesAt, ZeroAt, ZeroWordAt}
pub use Rattle.poll_close.specs.Standing.{Stands, opening_lists}
pub use Rattle.poll_close.specs.Rankings.{Around, Nearer, Ranking, around, is_ready, is_running, next_by, next_of, one_if, rank_by_states, rank_of, ready_if}
pub use Rattle.poll_close.specs.Rankings.{receiver_rank, receiver_rank_if, rest_from, ring_size, round, runs, sender_if, share, some_open, total, visited_by}
unfoldable pub use Rattle.poll_close.specs.Rankings.{Decreases}
pub use Rattle.poll_close.specs.Plans.{AllLanded, CanFinish, Finished, Finishes, all_closed, ends_in_word, is_closed, is_done, is_word, senders_of}
pub use Rattle.poll_close.specs.Waiting.{MayLoad}
pub use Rattle.poll_close.specs.Invariant.BlockInvariant.{AllReported, BlockInvariant, Count, DistanceToReport, Flag, Near, Over, ReceiverCounts, ReceiverIs}
pub use Rattle.poll_close.specs.Invariant.BlockInvariant.{ReceiverRow, Round, Visit, length_of, opened_rows, ranking_of, rows_of, unread_of, unsent_of}
pub use Rattle.poll_close.specs.Invariant.Blocks.{AreNext, SenderBlock, as_write, as_writes, block_of, offset, slot, to_block, window}
pub use Rattle.poll_close.specs.Invariant.Channels.{BlockPart, Channel, ReceiverPart, ReportPart, ReportsOf, all_closings, means_by}
pub use Rattle.poll_close.specs.Invariant.HartStates.{ReceiverConstants, ReceiverRegisters, SenderConstants, SenderRegisters, closings_due, ended, file, fixed}
pub use Rattle.poll_close.specs.Invariant.HartStates.{receiver_of, receives, receiving, running, whole_of}
pub use Rattle.poll_close.specs.Invariant.Outlines.{SenderIs, left_of, rank_in, stands}
pub use Rattle.poll_close.specs.declared.clean.Share.{Share}
pub use Rattle.poll_close.specs.declared.clean.Violation.{Violation}
pub use Rattle.poll_close.specs.declared.faults.RefusedAt.{RefusedAt}
pub use Rattle.poll_close.specs.declared.faults.RefusedAt.TheVariants.{BlocksMeet, FilledBlock, Lists, UnevenBase, UnevenStride}
