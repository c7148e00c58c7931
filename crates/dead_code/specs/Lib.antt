pub mod Removal
pub mod Liveness
pub mod LastLaws
pub mod Pruned
pub mod LiveRows
pub mod PrunedLaws
pub mod Dead
pub mod PrunedPathLaws
