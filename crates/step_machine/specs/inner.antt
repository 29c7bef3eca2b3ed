-- What serves the proofs. Public clauses carry `IsMachineAt`, under the name `RepresentsHistory`, and never open it, so
-- there is nothing in it to believe: any relation that these clauses keep would do. Only those about positions
-- (`specs/Positions.antt`) read `Config` and `Stored`.
pub mod Stored
pub mod Config
pub mod Restored
pub mod Representation
pub mod Packed
