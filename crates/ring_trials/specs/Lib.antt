pub mod UserChannel
pub mod Trials
pub mod Answers
