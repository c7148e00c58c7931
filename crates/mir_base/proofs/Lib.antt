pub mod Tidy
pub mod Reserved
