pub mod Codes
pub mod Trees
pub mod Flaws
pub mod Operands
pub mod Accesses
