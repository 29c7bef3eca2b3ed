pub mod Listing
pub mod FastForward
pub mod Invariant
pub use Rattle.fastforward.specs.Listing.{fastforward, listing, ring_lines}
pub use Rattle.fastforward.specs.FastForward.{fastforward_blocks, fastforward_means, fastforward_ranking, waits}
pub use Rattle.fastforward.specs.Invariant.{CounterInvariant, Counters, Empty, Filled, Landed, Level, Loaded, Words, freed, gone, null_store, nulls}
pub use Rattle.fastforward.specs.Invariant.{receiver_stores, sender_stores, sent, taken_so_far}
pub use Rattle.fastforward.specs.Invariant.Sender.{Marked, sender}
