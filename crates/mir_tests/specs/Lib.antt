pub mod Ladder
pub mod Levels
pub mod Slope
pub mod Squares
