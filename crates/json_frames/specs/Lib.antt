pub mod Parts
pub mod Written
pub mod Reading
pub mod Documents
pub mod Calls
pub mod FaultTexts
