pub mod Events
pub mod Nexuses
pub mod Schedules
