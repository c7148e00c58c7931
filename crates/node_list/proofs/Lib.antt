pub mod Counts
pub mod Along
pub mod Keeps
pub mod Writes
pub mod Ahead
pub mod Own
