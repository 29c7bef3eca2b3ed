mod AtLeaves
mod Going
mod Stopping
mod Following
mod Sharing
mod Touching
mod Safety
mod LittleTexts
