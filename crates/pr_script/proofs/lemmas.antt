pub mod Costs
pub mod Depths
pub mod Next
pub mod Program
pub mod Scripts
pub mod Takes
pub mod Trees
pub mod Versions
