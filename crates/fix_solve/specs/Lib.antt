pub mod Order
pub mod Pointwise
pub mod Net
pub mod NewsFlows
pub mod Arising
pub mod OrderWalks
pub mod Solving
