pub mod Auditing
