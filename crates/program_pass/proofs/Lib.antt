pub mod Pushed
pub mod Marking
