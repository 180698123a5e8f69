pub mod Auditing
pub mod Auditors
pub mod Audits
