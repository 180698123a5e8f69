pub mod Breaches
pub mod CertifiedRuns
pub mod Classes
pub mod Ends
pub mod Moments
pub mod inside
