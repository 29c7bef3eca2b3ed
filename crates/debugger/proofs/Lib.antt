pub mod SnapshotLaws
pub mod DebuggerLaws
pub mod FirstLines
pub mod TranscriptLaws
