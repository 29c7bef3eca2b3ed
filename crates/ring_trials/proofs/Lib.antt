pub mod JudgingLaws
pub mod RunsLaws
pub mod TextLaws
