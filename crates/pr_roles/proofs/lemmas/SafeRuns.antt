pub mod FewerPremises
pub mod NextEvents
