-- What holds at the lines of this ring's sender. Nothing here has to be believed: the laws of the ring are proved by it.
pub mod Sender
