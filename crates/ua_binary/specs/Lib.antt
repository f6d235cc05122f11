pub mod Begins
pub mod Reading
pub mod ReadingValues
pub mod Spelling
pub mod Types
pub mod Wire
pub mod Writing
pub mod FaultTexts
