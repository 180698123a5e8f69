pub mod Questions
pub mod Recollection
