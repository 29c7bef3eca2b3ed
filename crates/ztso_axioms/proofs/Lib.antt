pub mod Listing
pub mod Checked
pub mod Walks
pub mod Members
pub mod Performs
pub mod Fronts
pub mod Ordered
pub mod Values
