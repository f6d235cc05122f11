pub mod KeySets
pub mod InMemory
pub mod Faults
pub mod Ring
pub mod FaultTexts
