-- Lemmas.
pub mod Compaction
pub mod FieldLaws
pub mod KeyLaws
pub mod LayoutLaws
pub mod NumberLaws
pub mod PartLaws
pub mod PartRows
pub mod PartSteps
pub mod PartTables
pub mod RowLaws
pub mod TreeLaws
