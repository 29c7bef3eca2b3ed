pub mod Bytes
pub mod WholeWords
pub mod Joined
pub mod Written
