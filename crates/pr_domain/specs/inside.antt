pub mod Beginning
pub mod Permitting
pub mod Ranges
pub mod Reporting
pub mod Sendings
pub mod Tallies
pub mod TestedCommands
pub mod Twins
