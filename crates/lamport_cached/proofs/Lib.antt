pub mod Means
pub mod Sender
pub mod LamportCachedLaws
