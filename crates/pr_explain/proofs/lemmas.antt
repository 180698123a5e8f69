pub mod Reasons
pub mod ScriptCosts
