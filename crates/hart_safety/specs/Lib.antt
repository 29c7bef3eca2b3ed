pub mod Leaves
pub mod Stops
pub mod Ends
pub mod Regions
pub mod Touched
pub mod Shared
