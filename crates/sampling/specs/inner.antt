-- What serves the proofs alone, where a private contract names it.
pub mod Tallies
pub mod Merging
pub mod Transitions
pub mod Stops
