pub mod Bits
pub mod BitLaws
pub mod Words
pub mod Marks
pub mod Joinings
