pub mod Ranges
pub mod Naming
