pub mod Heights
pub mod Lifts
pub mod Sums
