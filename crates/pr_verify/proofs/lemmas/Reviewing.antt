pub mod Findings
pub mod FittingPlaces
pub mod OwnCommands
pub mod Starts
