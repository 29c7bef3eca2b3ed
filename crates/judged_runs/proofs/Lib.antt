pub mod Better
pub mod Histories
pub mod Schedules
