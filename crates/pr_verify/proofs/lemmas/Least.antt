pub mod Disturbances
pub mod FirstLines
