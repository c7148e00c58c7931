pub mod RawUnit
pub mod RawParts
pub mod Grammar
pub mod Reader
pub mod Fault
pub mod Spells
pub mod Answers
