pub mod DistinctLists
pub mod FewerPremises
