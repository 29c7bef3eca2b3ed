pub mod CleaningLaws
pub mod CommentLaws
pub mod TokenLaws
pub mod Bytes
pub mod AssignmentLaws
pub mod Spelling
