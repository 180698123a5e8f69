pub mod Nexuses
