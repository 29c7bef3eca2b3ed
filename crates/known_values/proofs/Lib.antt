pub mod Differences
pub mod Ends
pub mod Totals
