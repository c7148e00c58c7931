pub mod Draws
pub mod Trial
