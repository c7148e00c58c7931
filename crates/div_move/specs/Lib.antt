pub mod MustCome
pub mod MustComeLaws
pub mod Slots
pub mod SlotLaws
pub mod SlotFlow
pub mod SlotFlowLaws
pub mod Moves
