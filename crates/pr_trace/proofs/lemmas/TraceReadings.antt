pub mod Cuts
pub mod EntryLines
pub mod NexusNames
pub mod ScenarioNames
pub mod SolidWords
pub mod WholeTraces
