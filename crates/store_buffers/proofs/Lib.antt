pub mod Reading
pub mod Effects
pub mod Performed
pub mod MessagePassing
pub mod LateStores
pub mod OwnEntries
