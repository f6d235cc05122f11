pub mod Kept
pub mod Cases
pub mod Keeping
pub mod Passed
pub mod Answers
pub mod Progress
pub mod Reader
pub mod Props
