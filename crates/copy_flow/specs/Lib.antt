pub mod Copies
pub mod Copied
pub mod CopiedLaws
pub mod ByRows
pub mod Meaning
pub mod Shapes
