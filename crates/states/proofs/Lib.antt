pub mod EndLaws
pub mod FitAfter
pub mod GoingOn
pub mod NumberLaws
