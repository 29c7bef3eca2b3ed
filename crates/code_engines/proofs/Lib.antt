pub mod Describing
pub mod CodeTexts
pub mod ShownSteps
