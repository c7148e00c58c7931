pub mod Rules
pub mod Bits
pub mod Busy
pub mod EveryPathLaws
pub mod BusyPlaces
