pub mod Additions
pub mod Changes
pub mod Placements
pub mod RoleEffects
pub mod Standings
