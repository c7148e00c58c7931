pub mod Frames
pub mod Operands
pub mod Steps
pub mod Answered
