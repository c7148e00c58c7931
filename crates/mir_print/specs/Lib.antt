pub mod Texts
pub mod Labels
pub mod Scopes
pub mod Sides
pub mod WellTyped
