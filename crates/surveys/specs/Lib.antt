pub mod Surveys
pub mod Wanted
pub mod inner
