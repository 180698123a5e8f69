pub mod IdleCommands
pub mod Permissions
