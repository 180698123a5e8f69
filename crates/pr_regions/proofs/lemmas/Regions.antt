pub mod ChangedStates
pub mod Effects
pub mod KeyHolders
pub mod PreemptCases
pub mod ToldAttentions
