mod Growing
pub mod Spelled
mod Valid
mod Listed
