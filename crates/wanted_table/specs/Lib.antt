pub mod WantedLines
pub mod Narrowings
pub mod Demanding
