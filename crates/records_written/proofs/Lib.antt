mod MarkLaws
pub mod Again
mod Acted
mod Exact
mod ReceivedIndices
mod ReceivedTags
mod Leading
mod Runs
pub mod Answers
mod OnceRuns
mod LittleTexts
