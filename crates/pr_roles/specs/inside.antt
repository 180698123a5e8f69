pub mod ControlCodes
pub mod Invariants
pub mod StoredStarts
pub mod SharedStates
