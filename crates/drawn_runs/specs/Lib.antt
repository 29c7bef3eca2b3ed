pub mod Draws
pub mod Samples
pub mod Sharing
