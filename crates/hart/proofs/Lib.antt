pub mod Needs
pub mod Advances
pub mod Instructions
