pub mod Answering
pub mod Lines
pub mod LooseValues
pub mod Naming
pub mod Opening
pub mod Showing
pub mod SlotValues
pub mod Telling
