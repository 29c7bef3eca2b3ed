pub mod FlawLaws
pub mod Ranges
pub mod Splits
pub mod Accessed
