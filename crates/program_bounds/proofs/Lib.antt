pub mod Rows
pub mod SweepLaws
pub mod Raises
pub mod LessKnown
pub mod Fresh
pub mod Marked
pub mod ServeLaws
pub mod Starts
