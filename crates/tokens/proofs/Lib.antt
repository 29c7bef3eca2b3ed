pub mod Held
pub mod Roles
pub mod EveryRun
mod ByHand
