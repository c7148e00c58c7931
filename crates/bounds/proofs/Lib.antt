mod Examples
pub mod Ways
pub mod KindLaws
