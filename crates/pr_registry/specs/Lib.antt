pub mod Hosts
pub mod Registrations
pub mod Tables
pub mod Changes
pub mod Effects
pub mod Premises
pub mod inside
