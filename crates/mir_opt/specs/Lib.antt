pub mod Stages
pub mod Links
pub mod Best
pub mod Divisions
pub mod Made
pub mod OneLaws
