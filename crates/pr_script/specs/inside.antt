pub mod Climbs
pub mod Compiled
pub mod Program
pub mod StoredForm
pub mod Advances
pub mod ArmLists
