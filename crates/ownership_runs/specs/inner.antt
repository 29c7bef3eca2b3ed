-- What serves the proofs alone, where a private contract names it.
pub mod Bounds
pub mod Noting
pub mod Logging
pub mod LossNoting
pub mod Stepping
