pub mod Targets
pub mod Through
pub mod Passing
pub mod Splits
