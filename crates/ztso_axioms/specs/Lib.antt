pub mod Operations
pub mod Axioms
pub mod Performed
pub mod inner
