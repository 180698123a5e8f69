pub mod Chain
pub mod ScenarioLines
pub mod TextLines
pub mod WordTerms
