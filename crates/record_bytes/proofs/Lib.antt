pub mod OffsetLaws
pub mod RangeLaws
