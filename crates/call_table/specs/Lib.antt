pub mod Joins
pub mod Tails
