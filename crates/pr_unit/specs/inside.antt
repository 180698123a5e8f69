pub mod Told
pub mod UnitCodes
pub mod Following
pub mod Readiness
pub mod SharedStates
pub mod Ways
