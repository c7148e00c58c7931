pub mod Further
pub mod Kinds
pub mod Promises
