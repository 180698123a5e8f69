pub mod RetypedStates
