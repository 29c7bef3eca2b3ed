-- What serves the proofs alone, where a private contract or a view names it.
pub mod Compact
pub mod Digits
pub mod Fields
pub mod Levels
pub mod Parts
pub mod Trees
