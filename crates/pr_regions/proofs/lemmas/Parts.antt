pub mod Branches
pub mod Endings
pub mod HeldPreemption
pub mod Keys
pub mod Preemption
pub mod Services
pub mod Transfers
pub mod Unregistration
