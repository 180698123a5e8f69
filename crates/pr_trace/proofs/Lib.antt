pub mod Common
pub mod lemmas
