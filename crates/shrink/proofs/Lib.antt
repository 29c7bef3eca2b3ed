pub mod PartLaws
pub mod PassLaws
pub mod EndLaws
