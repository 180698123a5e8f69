pub mod Outcomes
pub mod Permission
pub mod Permitting
pub mod Reporting
pub mod Starting
pub mod Tallies
pub mod Twins
