pub mod Held
pub mod Wanted
pub mod Counts
pub mod HeldLaws
