pub mod Tails
pub mod Answered
pub mod LoopedLaws
pub mod LoopValues
pub mod TailStacks
pub mod Widened
pub mod OneLaws
pub mod Positions
