pub mod Cleaning
pub mod Names
pub mod Assignments
pub mod Tokens
