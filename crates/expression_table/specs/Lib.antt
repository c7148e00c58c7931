pub mod Expressions
