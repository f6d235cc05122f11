pub mod Cover
pub mod Chunks
pub mod Joining
pub mod Joiners
pub mod Joins
pub mod Spelling
pub mod FaultTexts
