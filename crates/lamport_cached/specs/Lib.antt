pub mod Listing
pub mod LamportCached
pub mod Invariant
