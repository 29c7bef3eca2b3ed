pub mod Parties
pub mod Positions
pub use Rattle.queue_parties.specs.Parties.{IsWindow, KeepsEach, Party, QueueCounts, all_at, count, counts_from, handed_on, known, other}
pub use Rattle.queue_parties.specs.Parties.{owned_until, the_receiver, the_sender, with_count, with_known}
pub use Rattle.queue_parties.specs.Positions.{IsInBytes, IsPrefix, slot_from}
unfoldable pub use Rattle.queue_parties.specs.Positions.{numbers_from, records_passed}
