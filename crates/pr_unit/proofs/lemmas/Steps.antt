pub mod EarlySteps
pub mod EasedSteps
pub mod Existence
pub mod FixedStates
pub mod QuietSteps
pub mod SharedSteps
pub mod Statuses
pub mod WellFormedSteps
