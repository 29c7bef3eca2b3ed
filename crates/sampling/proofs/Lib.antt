pub mod TallyLaws
pub mod TallyMerging
pub mod RedrawnLaws
pub mod EndVerdicts
pub mod TransitionLaws
pub mod GrownTransitions
