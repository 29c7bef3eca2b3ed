-- What holds of every history of a channel, stated over what a ring says of one block. Nothing here has
-- to be believed: the laws of a ring are proved by it.
pub mod Blocks
pub mod HartStates
pub mod Outlines
pub mod BlockInvariant
pub mod Channels
