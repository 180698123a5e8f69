pub mod Counts
pub mod SpelledCommands
pub mod Starts
