pub mod Called
pub mod Marked
