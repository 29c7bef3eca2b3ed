pub mod CommandLines
pub mod Commands
pub mod Descriptions
pub mod Jobs
pub mod Parameters
pub mod Uses
