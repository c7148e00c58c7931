pub mod PrunedMarks
pub mod PrunedPaths
pub mod Flagged
pub mod LiveBlocks
pub mod Flagging
pub mod LiveNodes
