pub mod Views
pub mod Every
pub mod TwoParties
pub mod EveryRun
