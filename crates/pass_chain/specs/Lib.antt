pub mod Passes
pub mod GraphPasses
pub mod GraphPassLaws
pub mod PassLaws
pub mod ChainLaws
pub mod TrailLaws
