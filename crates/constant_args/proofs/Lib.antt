pub mod Constants
pub mod BehindStart
pub mod ArgumentStacks
pub mod Noting
pub mod Made
pub mod Steps
