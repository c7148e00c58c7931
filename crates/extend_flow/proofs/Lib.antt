pub mod Meaning
pub mod Numbers
pub mod Shapes
pub mod Undone
