pub mod Following
pub mod Rows
pub mod TableText
