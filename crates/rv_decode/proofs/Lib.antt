pub mod Unique
pub mod Meanings
pub mod Words
pub mod PlainWords
pub mod TableLaws
