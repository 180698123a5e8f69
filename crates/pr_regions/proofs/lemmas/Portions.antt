pub mod GatheredStates
pub mod WordArrays
