pub mod Admit
pub mod Alike
pub mod Earliest
