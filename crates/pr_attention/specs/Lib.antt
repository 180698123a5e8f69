pub mod Attentions
pub mod CodeSets
pub mod SameCodes
pub mod Flagged
