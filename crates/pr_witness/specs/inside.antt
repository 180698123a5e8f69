pub mod Starting
pub mod Following
