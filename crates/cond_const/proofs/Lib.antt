pub mod Constants
pub mod KindLaws
