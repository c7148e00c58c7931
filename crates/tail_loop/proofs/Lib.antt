pub mod Found
pub mod Pushed
pub mod OneLoop
pub mod Makes
pub mod PositionsTold
