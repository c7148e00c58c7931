pub mod KeyRows
pub mod KeyRowLaws
pub mod BelowLaws
pub mod Gathered
pub mod GatheredLaws
