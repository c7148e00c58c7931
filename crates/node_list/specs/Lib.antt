pub mod Lists
pub mod ListedLaws
pub mod Rings
