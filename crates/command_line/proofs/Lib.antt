pub mod Described
pub mod Matches
pub mod NumberLaws
pub mod TableLaws
pub mod UseLaws
