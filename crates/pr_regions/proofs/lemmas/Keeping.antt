pub mod Additions
pub mod Gains
