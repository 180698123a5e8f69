pub mod ProgressCodes
pub mod Plans
pub mod Workings
pub mod Turns
pub mod Participations
