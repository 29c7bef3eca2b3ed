pub mod ShrinkLaws
pub mod WidthLaws
pub mod ChartLaws
pub mod ShowLaws
