pub mod Views
pub mod Ops
pub mod Splices
pub mod Flat
pub mod NextBits
pub mod Marking
pub mod Whole
mod Grown
