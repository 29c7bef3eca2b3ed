pub mod Differences
pub mod TallyLaws
pub mod TextLaws
pub mod Goings
pub mod Answering
