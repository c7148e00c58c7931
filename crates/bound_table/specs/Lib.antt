pub mod BoundLines
pub mod Bounded
