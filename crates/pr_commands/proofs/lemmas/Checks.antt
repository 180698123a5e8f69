pub mod Reasons
pub mod Verdicts
