pub mod Verdicts
pub mod ScenarioWords
pub mod OutlineText
pub mod inside
