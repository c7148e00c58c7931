pub mod ConstantArguments
pub mod Gathered
