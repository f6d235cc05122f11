pub mod CauseCount
pub mod FirstRun
pub mod Groups
pub mod Pairs
pub mod Rows
