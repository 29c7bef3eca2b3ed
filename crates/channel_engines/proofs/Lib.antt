mod ListTexts
pub mod OneChannel
pub mod ChannelLaws
pub mod OneUserChannel
pub mod OneRing
