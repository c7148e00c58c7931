pub mod Columns
pub mod Expressions
pub mod Rows
pub mod Trails
pub mod Units
