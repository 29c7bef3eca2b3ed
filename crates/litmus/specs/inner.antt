-- What serves the proof alone: no public clause names it.
pub mod StepLaws
pub mod Codes
pub mod Building
pub mod Running
pub mod Seen
