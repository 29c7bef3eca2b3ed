pub mod Sides
pub mod Tagged
