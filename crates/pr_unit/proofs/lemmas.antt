pub mod Attentions
pub mod Demands
pub mod Steps
pub mod TakenSteps
pub mod UnitStates
