pub mod Parties
pub mod Positions
pub mod Landed
pub mod Runs
pub mod Records
