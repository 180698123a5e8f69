pub mod Additions
pub mod Admissions
pub mod RefusalsLeft
