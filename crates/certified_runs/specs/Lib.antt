pub mod Views
pub mod Certified
pub mod TwoParties
