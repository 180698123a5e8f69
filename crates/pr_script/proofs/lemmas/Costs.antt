pub mod Budgets
pub mod Products
