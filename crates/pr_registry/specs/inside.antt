pub mod Cases
pub mod TableStates
pub mod HostBits
