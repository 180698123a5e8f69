pub mod Hosts
pub mod Lines
