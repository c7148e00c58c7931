pub mod Extensions
pub mod Extended
pub mod ExtendedLaws
pub mod ByRows
