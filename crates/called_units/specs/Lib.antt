pub mod CalledUnits
pub mod CalledLaws
pub mod CallWalks
pub mod CalledFits
