pub mod Parties
pub mod Written
pub mod Read
pub mod PartyLeaves
pub mod Marks
pub use Rattle.records_written.specs.Parties.{receipt_of, tag_receipt_of}
pub use Rattle.records_written.specs.Parties.{effect_counted, counts_for, effect_by, is_swap, next_instruction}
pub use Rattle.records_written.specs.Parties.{IsListed, count_after, count_of, effect_in, end_of, hart_by, owned_end_after, published_after, receiver_in}
pub use Rattle.records_written.specs.Parties.{sender_in, size_in, slot_in, taken_after}
pub use Rattle.records_written.specs.Written.{IsWritten}
pub use Rattle.records_written.specs.Read.{IsFresh, IsRead, IsReadBy}
pub use Rattle.records_written.specs.PartyLeaves.{PartyLeaf, closed_by, ends_at, has_offset, is_again}
pub use Rattle.records_written.specs.PartyLeaves.{is_filled, marked_after, may_hand, may_hand_on, reads_byte}
pub use Rattle.records_written.specs.PartyLeaves.{AreClosed, IsAnswer, IsFirstTwice, IsOnce, IsOnceAt, IsUnder, leads_closed, raised, reads_again}
pub use Rattle.records_written.specs.PartyLeaves.{AreKept, IsFirstUnsure, IsSure, IsSureAt, IsSurelyDone, keeps}
pub use Rattle.records_written.specs.PartyLeaves.{AreMost, IsEnd, IsFirstOf, IsFirstOpen, IsLowest, IsLowestOpen, IsOpenAt, are_left, has_mark, is_left}
pub use Rattle.records_written.specs.PartyLeaves.{is_mark, is_open, lower, lower_of, marks_byte, marks_of}
pub use Rattle.records_written.specs.Marks.{IsFirstAgain, IsFirstMissing, IsFirstUnread, IsFirstUnwritten}
pub use Rattle.records_written.specs.Marks.{IsShownDone, IsShownOnce, IsShownRead, IsShownWritten}
pub use Rattle.records_written.specs.Marks.{IsRecordByte, OwnsReads}
pub use Rattle.records_written.specs.Marks.{first_of, graph_of, is_all, leaf_by, leaves_in}
pub use Rattle.records_written.specs.declared.finding.Missing.{Missing}
pub use Rattle.records_written.specs.declared.finding.Open.{Open}
pub use Rattle.records_written.specs.declared.marking.Mark.{Mark}
pub use Rattle.records_written.specs.declared.parties.QueueNumber.{QueueNumber}
pub use Rattle.records_written.specs.declared.parties.QueueNumber.TheVariants.{Indexed, Tagged}
