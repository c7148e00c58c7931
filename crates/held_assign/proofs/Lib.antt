pub mod Taking
pub mod Holdable
pub mod Bits
pub mod Found
