pub mod Tokens
pub mod Roles
pub mod Protocols
