pub mod Least
pub mod Diaries
pub mod Coming
pub mod OnPaths
pub mod GettingOn
pub mod Fresh
pub mod Made
