pub mod Truths
pub mod Compared
pub mod Meaning
pub mod Shapes
