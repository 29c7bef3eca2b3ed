-- What serves the proof alone: no public clause names it.
pub mod Landings
