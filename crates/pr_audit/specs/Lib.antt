pub mod Auditors
pub mod Audits
pub mod Ends
pub mod inside
