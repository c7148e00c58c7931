pub mod Columns
pub mod Lines
pub mod Known
pub mod Nodes
pub mod Rows
pub mod Steps
pub mod Turns
pub mod TurnLaws
