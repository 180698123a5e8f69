pub mod Checks
pub mod LineOrder
pub mod Lookups
pub mod UnnoticedCommands
