pub mod Calling
pub mod Stale
pub mod StaleLaws
