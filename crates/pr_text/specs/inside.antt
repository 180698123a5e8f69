pub mod LineSteps
pub mod Drafts
pub mod Endings
pub mod OpenScripts
pub mod Sound
pub mod Steps
