pub mod FreshNames
pub mod FreshNameLaws
