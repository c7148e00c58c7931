pub mod FreeNames
pub mod Taken
