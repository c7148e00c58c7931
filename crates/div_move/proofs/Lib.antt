pub mod FlowSteps
pub mod Pairs
pub mod DownRows
pub mod Reaching
pub mod RunsCome
pub mod Trapping
