pub mod Beginnings
pub mod Bounds
pub mod Outlines
pub mod SettledPlaces
pub mod Visits
