pub mod Agreement
pub mod Flagging
pub mod Shapes
