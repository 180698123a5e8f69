pub mod Determinism
pub mod GoodSteps
