pub mod Rows
pub mod TableText
pub mod Following
pub mod Laws
