pub mod ShownStates
pub mod Values
