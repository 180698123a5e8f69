pub mod Growth
pub mod Sketches
