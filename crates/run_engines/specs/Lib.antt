pub mod Run
pub mod Threads
