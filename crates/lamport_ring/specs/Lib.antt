pub mod Listing
pub mod Lamport
pub mod Invariant
pub use Rattle.lamport_ring.specs.Listing.{lamport, listing, ring_lines}
pub use Rattle.lamport_ring.specs.Lamport.{lamport_blocks, lamport_means, lamport_ranking}
pub use Rattle.lamport_ring.specs.Invariant.{CounterInvariant, Counters, Program, Sent, Words, blocks_of, outline_of}
pub use Rattle.lamport_ring.specs.Invariant.Sender.{lamport_program}
