pub mod Nexuses
pub mod Parts
pub mod Paths
