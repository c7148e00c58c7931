pub mod Found
pub mod Pushed
pub mod MadeOfLeaves
pub mod Tabled
pub mod Tested
pub mod Stepped
