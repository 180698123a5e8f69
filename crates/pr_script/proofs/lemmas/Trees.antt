pub mod Equality
pub mod Equations
pub mod ListTails
