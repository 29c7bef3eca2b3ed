pub mod Failures
pub mod Streams
pub mod Work
