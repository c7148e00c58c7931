pub mod Combined
pub mod Joined
pub mod Moving
pub mod PartRows
pub mod Reading
pub mod Staying
