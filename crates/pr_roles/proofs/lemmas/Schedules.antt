pub mod NextCommands
