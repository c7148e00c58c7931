pub mod RunsSoFar
pub mod Reports
