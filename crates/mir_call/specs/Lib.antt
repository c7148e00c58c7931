pub mod Spelled
pub mod Answers
