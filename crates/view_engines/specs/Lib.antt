pub mod Shrink
pub mod LeastWidths
pub mod About
pub mod Chart
pub mod TestLines
pub mod Show
