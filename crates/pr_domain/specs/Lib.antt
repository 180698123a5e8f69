pub mod Landings
pub mod Outcomes
pub mod Permission
pub mod Starting
pub mod inside
