pub mod Explained
pub mod Nexuses
