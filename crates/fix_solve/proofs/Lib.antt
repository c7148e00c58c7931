pub mod Solves
pub mod Loads
pub mod Visits
mod Telling
pub mod Parts
pub mod Waiting
