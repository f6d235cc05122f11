pub mod Packing
pub mod Payloads
pub mod FaultTexts
