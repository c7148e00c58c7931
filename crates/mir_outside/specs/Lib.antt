pub mod Causes
pub mod Memory
pub mod Transfer
pub mod SinkLaws
