pub mod Lists
pub mod Channels
pub mod UserChannels
pub mod Rings
pub mod inner
